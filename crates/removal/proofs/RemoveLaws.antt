-- A tag taken out of a list that names it once: where it stands, and the bytes behind it moved down.
use Rattle.std.proofs.Common.{◌≡◌, ℕ, zero, suc, ◌+◌, ◌-◌, ◌*◌, ◌/◌, ◌%◌, ◌<◌, ◌≤◌, Bool, true, false, cond, not, eqb, ltb, List, [], ◌∷◌, ◌++◌, length, get_or, take, drop, set, sym, refl, ap, ◌∙◌, ap₂, mod-eq_of_lt, add-one, arith, length-append, length-drop, length-set, length-take-le, take_all, get_or-set_other, get_or-take, take-suc, get_or-set_same, ext_get_or, ltb-false, ltb-true, eq-eqb, ne_eqb, eqb-true}
use borrow.Author.Tests.{eqb-false}
use mir.Val.{bool_byte}
use Rattle.lists.specs.Keep.{keep, without, count}
use Rattle.lists.proofs.KeepLaws.{count-append}
use Rattle.memory.specs.Halves.{halves_in}
use Rattle.memory.proofs.HalfLaws.{length_halves, halves_at}
use Rattle.tags.specs.Lists.{list_in}
use Rattle.tags.proofs.ListLaws.{places, length_places, place_at, length_list, list_short, list_at, recount}
use Rattle.removal.specs.Places.{Placed}

-- ---- any list

pub without_none : (k : ℕ) (l : List ℕ) → count k l ≡ 0 → without k l ≡ l
unfolding keep
without_none k [] e = refl
without_none k (x ∷ l) e = go (eqb k x) e (without_none k l)
  where
    go : (b : Bool) → cond b 1 0 + count k l ≡ 0 → (count k l ≡ 0 → without k l ≡ l) → cond (not b) (x ∷ without k l) (without k l) ≡ x ∷ l
    go true f ih = absurd (omega arith)
    go false f ih = ap (λ (r : List ℕ). x ∷ r) (ih (omega arith))

count_at : (k p : ℕ) (l : List ℕ) → p < length l → get_or l p 0 ≡ k → 1 ≤ count k l
count_at k p [] h e = absurd (omega arith)
count_at k zero (x ∷ l) h e = rw (eq-eqb k x (sym e)) (omega arith)
count_at k (suc p) (x ∷ l) h e = omega (arith, count_at k p l (omega arith) e)

-- l but for place p
abbrev pub closed : List ℕ → ℕ → List ℕ
closed l p = take p l ++ drop (suc p) l

pub without_once : (k p : ℕ) (l : List ℕ) → count k l ≡ 1 → p < length l → get_or l p 0 ≡ k → closed l p ≡ without k l
unfolding keep
without_once k p [] e h f = absurd (omega arith)
without_once k zero (x ∷ l) e h f =
    let same = eq-eqb k x (sym f) in
    let none : count k l ≡ 0 = omega (arith, rw same at e) in
    rw same (sym (without_none k l none))
without_once k (suc p) (x ∷ l) e h f = go (eqb k x) e (λ (g : count k l ≡ 1). without_once k p l g (omega arith) f)
  where
    go : (b : Bool) → cond b 1 0 + count k l ≡ 1 → (count k l ≡ 1 → closed l p ≡ without k l) → x ∷ closed l p ≡ cond (not b) (x ∷ without k l) (without k l)
    go true g ih = absurd (omega (arith, count_at k p l (omega arith) f))
    go false g ih = ap (λ (r : List ℕ). x ∷ r) (ih (omega arith))

closed_before : (l : List ℕ) (p i : ℕ) → i < p → p < length l → get_or (closed l p) i 0 ≡ get_or l i 0
closed_before [] p i b h = absurd (omega arith)
closed_before (x ∷ l) zero i b h = absurd (omega arith)
closed_before (x ∷ l) (suc p) zero b h = refl
closed_before (x ∷ l) (suc p) (suc i) b h = closed_before l p i (omega arith) (omega arith)

closed_after : (l : List ℕ) (p i : ℕ) → p ≤ i → p < length l → get_or (closed l p) i 0 ≡ get_or l (suc i) 0
closed_after [] p i b h = absurd (omega arith)
closed_after (x ∷ l) zero i b h = refl
closed_after (x ∷ l) (suc p) zero b h = absurd (omega arith)
closed_after (x ∷ l) (suc p) (suc i) b h = closed_after l p i (omega arith) (omega arith)

length_closed : (l : List ℕ) (p : ℕ) → p < length l → length (closed l p) ≡ length l - 1
length_closed l p h = length-append (take p l) (drop (suc p) l) ∙ omega (arith, length-take-le p l (omega arith), length-drop (suc p) l)

-- ---- the places of k: i are looked at

pub one_hit : (b : Bool) → bool_byte b ≤ 1
one_hit true = omega arith
one_hit false = omega arith

module _ (k : ℕ) (l : List ℕ) where
  pub record Placing (i hits sum : ℕ) : Type 0 where
    pub counted : hits ≡ count k (take i l)
    pub few : hits ≤ i
    pub none : hits ≡ 0 → sum ≡ 0
    pub once : hits ≡ 1 → (sum < i) × (get_or l sum 0 ≡ k)

  pub placing_none : Placing 0 0 0
  placing_none = record { counted = refl; few = omega arith; none = λ e. refl; once = λ e. absurd (omega arith) }

  count_more : (i : ℕ) → i < length l → count k (take (i + 1) l) ≡ count k (take i l) + cond (eqb k (get_or l i 0)) 1 0
  count_more i h =
      ap (λ (n : ℕ). count k (take n l)) (add-one i)
      ∙ ap (count k) (take-suc l i 0 h)
      ∙ count-append k (take i l) (get_or l i 0 ∷ [])
      ∙ omega arith

  module _ (i hits sum : ℕ) (p : Placing i hits sum) (h : i < length l) (small : i < 65536) (x : ℕ) (at : x ≡ get_or l i 0) where
    pub placing_yes : eqb x k ≡ true → Placing (i + 1) (hits + bool_byte (eqb x k)) ((sum + i) % 65536)
    placing_yes e =
        let here : get_or l i 0 ≡ k = sym at ∙ eqb-true x k e in
        rw e record {
          counted = sym (count_more i h ∙ ap (λ (b : Bool). count k (take i l) + cond b 1 0) (eq-eqb k (get_or l i 0) (sym here)) ∙ ap (λ (n : ℕ). n + 1) (sym p.counted));
          few = omega (arith, p.few);
          none = λ f. absurd (omega arith);
          once =
              λ f.
              let first : (sum + i) % 65536 ≡ i = omega (arith, p.none (omega arith)) in
              (omega arith, ap (λ (n : ℕ). get_or l n 0) first ∙ here);
        }

    pub placing_no : eqb x k ≡ false → Placing (i + 1) (hits + bool_byte (eqb x k)) ((sum + 0) % 65536)
    placing_no e =
        let other : k ≡ get_or l i 0 → ⊥ = λ f. eqb-false x k e (at ∙ sym f) in
        rw e record {
          counted = sym (count_more i h ∙ ap (λ (b : Bool). count k (take i l) + cond b 1 0) (ne_eqb k (get_or l i 0) other) ∙ omega (arith, p.counted));
          few = omega (arith, p.few);
          none = λ f. omega (arith, p.none (omega arith));
          once =
              λ f.
              let there = p.once (omega arith) in
              let same : (sum + 0) % 65536 ≡ sum = omega (arith, there.0) in
              (omega (arith, there.0), ap (λ (n : ℕ). get_or l n 0) same ∙ there.1);
        }

  pub placing_all : (i hits sum : ℕ) → Placing i hits sum → i ≡ length l → Placed k l hits sum
  placing_all i hits sum p e = record {
    counted = p.counted ∙ ap (count k) (take_all i l (omega arith));
    once = λ f. (omega (arith, (p.once f).0), (p.once f).1);
  }

-- ---- the bytes from place p on moved down, to byte i

pub record Closing (p i : ℕ) (old new : List ℕ) : Type 0 where
  pub long : length new ≡ length old
  pub before : (q : ℕ) → q < 2 * p + 2 → get_or new q 0 ≡ get_or old q 0
  pub moved : (q : ℕ) → 2 * p + 2 ≤ q → q < i → get_or new q 0 ≡ get_or old (q + 2) 0
  pub after : (q : ℕ) → i ≤ q → get_or new q 0 ≡ get_or old q 0

pub closing_none : (p : ℕ) (bs : List ℕ) → Closing p (2 * p + 2) bs bs
closing_none p bs = record { long = refl; before = λ q b. refl; moved = λ q b h. absurd (omega arith); after = λ q b. refl }

pub closing_more : (p i : ℕ) (old new : List ℕ) → Closing p i old new → 2 * p + 2 ≤ i → i < length old → Closing p (i + 1) old (set new i (get_or new (i + 2) 0))
closing_more p i old new c b h =
    let v = get_or new (i + 2) 0 in
    let other : (q : ℕ) → (q ≡ i → ⊥) → get_or (set new i v) q 0 ≡ get_or new q 0 = λ q n. get_or-set_other new i q v 0 n in
    record {
      long = length-set new i v ∙ c.long;
      before = λ q g. other q (λ e. omega arith) ∙ c.before q g;
      moved = λ q g f. go q (eqb q i) refl g f (c.moved q g) (other q);
      after = λ q g. other q (λ e. omega arith) ∙ c.after q (omega arith);
    }
  where
    go : (q : ℕ) (t : Bool) → eqb q i ≡ t → 2 * p + 2 ≤ q → q < i + 1 → (q < i → get_or new q 0 ≡ get_or old (q + 2) 0)
        → ((q ≡ i → ⊥) → get_or (set new i (get_or new (i + 2) 0)) q 0 ≡ get_or new q 0) → get_or (set new i (get_or new (i + 2) 0)) q 0 ≡ get_or old (q + 2) 0
    go q true e g f done other =
        let same : q ≡ i = eqb-true q i e in
        rw same (get_or-set_same new i (get_or new (i + 2) 0) 0 (omega (arith, c.long)) ∙ c.after (i + 2) (omega arith))
    go q false e g f done other =
        let differ : q ≡ i → ⊥ = eqb-false q i e in
        other differ ∙ done (omega arith)

module _ (p n i : ℕ) (old mid : List ℕ) (c : Closing p i old mid) (len : n ≡ length (list_in old)) (b : p < n) (all : 2 * n ≤ i) where
  closing_before : (j : ℕ) → j < p → get_or (halves_in mid) (j + 1) 0 ≡ get_or (list_in old) j 0
  closing_before j h =
      let there : j + 1 < length old / 2 = omega (arith, length_list old) in
      halves_at mid (j + 1) (omega (arith, c.long))
      ∙ ap₂ (λ (x y : ℕ). x % 256 + y % 256 * 0x100) (c.before (2 * (j + 1)) (omega arith)) (c.before (2 * (j + 1) + 1) (omega arith))
      ∙ sym (halves_at old (j + 1) there)
      ∙ list_at old j (omega arith)

  closing_after : (j : ℕ) → p ≤ j → j + 1 < n → get_or (halves_in mid) (j + 1) 0 ≡ get_or (list_in old) (suc j) 0
  closing_after j g h =
      let there : j + 2 < length old / 2 = omega (arith, length_list old) in
      let low : 2 * (j + 1) + 2 ≡ 2 * (j + 2) = omega arith in
      let high : 2 * (j + 1) + 1 + 2 ≡ 2 * (j + 2) + 1 = omega arith in
      halves_at mid (j + 1) (omega (arith, c.long))
      ∙ ap₂ (λ (x y : ℕ). x % 256 + y % 256 * 0x100)
      (c.moved (2 * (j + 1)) (omega arith) (omega arith) ∙ ap (λ (q : ℕ). get_or old q 0) low)
      (c.moved (2 * (j + 1) + 1) (omega arith) (omega arith) ∙ ap (λ (q : ℕ). get_or old q 0) high)
      ∙ sym (halves_at old (j + 2) there)
      ∙ ap (λ (q : ℕ). get_or (halves_in old) q 0) (omega arith)
      ∙ list_at old (suc j) (omega arith)

  pub closing_all : (new : List ℕ) → halves_in new ≡ set (halves_in mid) 0 ((n - 1) % 65536) → list_in new ≡ closed (list_in old) p
  closing_all new e =
      let ps = places (halves_in mid) in
      let small : (n - 1) % 65536 ≡ n - 1 = mod-eq_of_lt (omega (arith, list_short old)) in
      let size : n - 1 ≤ length ps = omega (arith, length_places (halves_in mid), length_halves mid, c.long, length_list old) in
      let long : length (take (n - 1) ps) ≡ n - 1 = length-take-le (n - 1) ps size in
      recount mid new ((n - 1) % 65536) e
      ∙ ap (λ (m : ℕ). take m ps) small
      ∙ ext_get_or 0 (take (n - 1) ps) (closed (list_in old) p) (omega (arith, length_closed (list_in old) p (omega arith)))
      (λ j h. get_or-take (n - 1) ps j 0 (omega arith) ∙ sym (place_at (halves_in mid) j) ∙ here j (omega arith))
    where
      here : (j : ℕ) → j < n - 1 → get_or (halves_in mid) (j + 1) 0 ≡ get_or (closed (list_in old) p) j 0
      here j h = go (ltb j p) refl
        where
          go : (t : Bool) → ltb j p ≡ t → get_or (halves_in mid) (j + 1) 0 ≡ get_or (closed (list_in old) p) j 0
          go true f =
              let front = ltb-true j p f in
              closing_before j front ∙ sym (closed_before (list_in old) p j front (omega arith))
          go false f =
              let back = ltb-false j p f in
              closing_after j back (omega arith) ∙ sym (closed_after (list_in old) p j back (omega arith))
