-- Every place of a tag taken out of a list: i places are looked at, and j of them kept; old and new are halves.
use Rattle.std.proofs.Common.{◌≡◌, ℕ, ◌+◌, ◌%◌, ◌<◌, ◌≤◌, not, eqb, List, [], ◌∷◌, ◌++◌, length, get_or, take, drop, set, sym, refl, ap, ◌∙◌, add-zero, mod-eq_of_lt, add-one, arith, get_or-drop, drop-drop, take-suc-set, drop-set-lt, eq-eqb, ne_eqb}
use Rattle.lists.specs.Keep.{keep, without}
use Rattle.lists.proofs.KeepLaws.{keep_yes, keep_no}
use Rattle.memory.specs.Halves.{halves_in}
use Rattle.tags.specs.Lists.{list_in}
use Rattle.tags.proofs.ListLaws.{places, length_places, place_at, place_put, list_short, list_places, recount}

pub record Removing (k i j : ℕ) (old new : List ℕ) : Type 0 where
  pub front : take j (places new) ≡ without k (take i (places old))
  pub rest : drop i (places new) ≡ drop i (places old)

pub removing_none : (k : ℕ) (hs : List ℕ) → Removing k 0 0 hs hs
unfolding keep
removing_none k hs = record { front = refl; rest = refl }

module _ (k i j : ℕ) (old new : List ℕ) (r : Removing k i j old new) (h : i < length (places old)) where
  pub removing_read : get_or new (i + 1) 0 ≡ get_or (places old) i 0
  removing_read =
      let here : (l : List ℕ) → get_or l i 0 ≡ get_or (drop i l) 0 0 = λ l. sym (get_or-drop i l 0 0 ∙ ap (λ (n : ℕ). get_or l n 0) (add-zero i)) in
      place_at new i ∙ here (places new) ∙ ap (λ (l : List ℕ). get_or l 0 0) r.rest ∙ sym (here (places old))

  after : (l m : List ℕ) → drop i l ≡ drop i m → drop (i + 1) l ≡ drop (i + 1) m
  after l m e = sym (drop-drop 1 i l) ∙ ap (drop 1) e ∙ drop-drop 1 i m

  pub removing_no : k ≡ get_or (places old) i 0 → Removing k (i + 1) j old new
  removing_no e = record {
    front = r.front ∙ sym (keep_no (λ (x : ℕ). not (eqb k x)) (places old) i 0 h (ap not (eq-eqb k (get_or (places old) i 0) e)));
    rest = after (places new) (places old) r.rest;
  }

  pub removing_yes : (put : List ℕ) (x : ℕ) → x ≡ get_or (places old) i 0 → (x ≡ k → ⊥) → j ≤ i → length new ≡ length old
      → put ≡ set new (j + 1) x → Removing k (i + 1) (j + 1) old put
  removing_yes put x at other b same e =
      let now = ap places e ∙ place_put new j x in
      let size : j < length (places new) = omega (arith, length_places new, length_places old) in
      record {
        front =
            ap (take (j + 1)) now
            ∙ ap (λ (n : ℕ). take n (set (places new) j x)) (add-one j)
            ∙ take-suc-set (places new) j x size
            ∙ ap (λ (l : List ℕ). l ++ (x ∷ [])) r.front
            ∙ ap (λ (y : ℕ). without k (take i (places old)) ++ (y ∷ [])) at
            ∙ sym (keep_yes (λ (y : ℕ). not (eqb k y)) (places old) i 0 h (ap not (ne_eqb k (get_or (places old) i 0) (λ q. other (at ∙ sym q)))));
        rest = ap (drop (i + 1)) now ∙ drop-set-lt (i + 1) (places new) j x (omega arith) ∙ after (places new) (places old) r.rest;
      }

pub removing_all : (k i j : ℕ) (old mid new : List ℕ) → Removing k i j (halves_in old) (halves_in mid) → i ≡ length (list_in old) → j ≤ i
    → halves_in new ≡ set (halves_in mid) 0 (j % 65536) → list_in new ≡ without k (list_in old)
removing_all k i j old mid new r all b e =
    let small : j % 65536 ≡ j = mod-eq_of_lt (omega (arith, list_short old)) in
    recount mid new (j % 65536) e
    ∙ ap (λ (n : ℕ). take n (places (halves_in mid))) small
    ∙ r.front
    ∙ ap (without k) (ap (λ (n : ℕ). take n (places (halves_in old))) all ∙ list_places old)
