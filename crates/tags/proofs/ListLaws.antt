-- Lists of tag numbers in halves.
use mathlib.Core.Path.{◌≡◌, refl, ap, sym, ◌∙◌}
use mathlib.Core.Bool.{Bool, true, false, cond}
use mathlib.Core.List.{List, [], ◌∷◌, ◌++◌}
use Prim.Native.Nat.{ℕ, zero, suc, ◌+◌, ◌-◌, ◌/◌, ◌%◌, ◌≤◌, ◌<◌, min}
use native.Mathlib.Nat.{add_comm, add-zero, mod-eq_of_lt}
use native.Mathlib.Numerals.{add-one}
use native.Mathlib.Omega.{arith}
use borrow.Author.Tests.{ltb-true, ltb-false, lt-ltb, le-ltb, le-leb, lt-leb, eq-eqb, ne_eqb}
use lib.Dec.{ltb}
use lib.ListN.{length, get_or, set, take, drop, length-take, length-drop, length-append, drop_of_length-le, get_or-eq_default}
use lib.Seq.{take_all, take-nil, take-take, take_at, take-suc, take-suc-set, drop-drop, drop-cons, drop-set-add, drop-set-lt, get_or-take, get_or-drop, length-take-le}
use Rattle.lists.specs.Keep.{Below}
use Rattle.memory.specs.Halves.{halves_in}
use Rattle.tags.specs.Lists.{list_of, list_in, room, pushed, inserted_at, member}
use Rattle.memory.proofs.HalfLaws.{length_halves, half_small}

-- the halves after the count
abbrev pub places : List ℕ → List ℕ
places hs = drop 1 hs

pub length_places : (hs : List ℕ) → length (places hs) ≡ length hs - 1
length_places hs = length-drop 1 hs

pub place_at : (hs : List ℕ) (i : ℕ) → get_or hs (i + 1) 0 ≡ get_or (places hs) i 0
place_at hs i = sym (get_or-drop 1 hs i 0 ∙ ap (λ (n : ℕ). get_or hs n 0) (add_comm 1 i))

pub place_put : (hs : List ℕ) (i v : ℕ) → places (set hs (i + 1) v) ≡ set (places hs) i v
place_put hs i v = ap (λ (n : ℕ). places (set hs n v)) (add_comm i 1) ∙ drop-set-add 1 hs i v

-- a new count: the places stay
recounted : (hs : List ℕ) (n : ℕ) → list_of (set hs 0 n) ≡ take n (places hs)
recounted [] n = sym (take-nil n)
recounted (c ∷ ps) n = refl

take-length_of : (n : ℕ) (l : List ℕ) → take (length (take n l)) l ≡ take n l
take-length_of zero l = refl
take-length_of (suc n) [] = refl
take-length_of (suc n) (x ∷ l) = ap (λ (r : List ℕ). x ∷ r) (take-length_of n l)

-- ---- what a list is

pub length_list : (bs : List ℕ) → length (list_in bs) ≡ min (get_or (halves_in bs) 0 0) (length bs / 2 - 1)
unfolding list_in
length_list bs =
    length-take (get_or (halves_in bs) 0 0) (places (halves_in bs))
    ∙ ap (min (get_or (halves_in bs) 0 0)) (length_places (halves_in bs) ∙ ap (λ (n : ℕ). n - 1) (length_halves bs))

pub list_short : (bs : List ℕ) → length (list_in bs) ≤ room bs
list_short bs = omega (arith, length_list bs, half_small bs 0)

pub room_same : (a b : List ℕ) → length a ≡ length b → room a ≡ room b
room_same a b e = omega arith

pub list_places : (bs : List ℕ) → take (length (list_in bs)) (places (halves_in bs)) ≡ list_in bs
unfolding list_in
list_places bs = take-length_of (get_or (halves_in bs) 0 0) (places (halves_in bs))

pub list_at : (bs : List ℕ) (i : ℕ) → i < length (list_in bs) → get_or (halves_in bs) (i + 1) 0 ≡ get_or (list_in bs) i 0
list_at bs i h =
    place_at (halves_in bs) i
    ∙ sym (get_or-take (length (list_in bs)) (places (halves_in bs)) i 0 h)
    ∙ ap (λ (l : List ℕ). get_or l i 0) (list_places bs)

-- where a tag is, a half is
pub list_half : (bs : List ℕ) (i : ℕ) → i < length (list_in bs) → i + 1 < length bs / 2
list_half bs i h = omega (arith, length_list bs)

pub list_place : (bs : List ℕ) (i : ℕ) → i < length (list_in bs) → i < length (places (halves_in bs))
list_place bs i h = omega (arith, length_list bs, length_places (halves_in bs), length_halves bs)

pub list_none : (bs : List ℕ) (i : ℕ) → length (list_in bs) ≤ i → get_or (list_in bs) i 0 ≡ 0
list_none bs i h = get_or-eq_default (list_in bs) 0 h

pub list_small : (bs : List ℕ) (i : ℕ) → get_or (list_in bs) i 0 < 65536
list_small bs i = by_test (ltb i (length (list_in bs))) refl
  where
    by_test : (b : Bool) → ltb i (length (list_in bs)) ≡ b → get_or (list_in bs) i 0 < 65536
    by_test true e = rw (← list_at bs i (ltb-true i (length (list_in bs)) e)) (half_small bs (i + 1))
    by_test false e = rw (list_none bs i (ltb-false i (length (list_in bs)) e)) (omega arith)

below_each : (n : ℕ) (l : List ℕ) → ((i : ℕ) → i < length l → get_or l i 0 < n) → Below n l
below_each n [] h = tt
below_each n (x ∷ l) h = (h 0 (omega arith), below_each n l (λ i b. h (suc i) (omega arith)))

pub list_below : (bs : List ℕ) → Below 65536 (list_in bs)
list_below bs = below_each 65536 (list_in bs) (λ i b. list_small bs i)

pub recount : (old new : List ℕ) (n : ℕ) → halves_in new ≡ set (halves_in old) 0 n → list_in new ≡ take n (places (halves_in old))
unfolding list_in
recount old new n e = ap list_of e ∙ recounted (halves_in old) n

-- ---- push

pub pushed_more : (n : ℕ) (xs : List ℕ) (k : ℕ) → length xs < n → pushed n xs k ≡ xs ++ (k ∷ [])
pushed_more n xs k h = ap (λ (b : Bool). cond b (xs ++ (k ∷ [])) xs) (lt-ltb (length xs) n h)

pub pushed_full : (n : ℕ) (xs : List ℕ) (k : ℕ) → n ≤ length xs → pushed n xs k ≡ xs
pushed_full n xs k h = ap (λ (b : Bool). cond b (xs ++ (k ∷ [])) xs) (le-ltb (length xs) n h)

pub push_put : (old mid new : List ℕ) (n k : ℕ) → n ≡ length (list_in old) → n < room old
    → halves_in mid ≡ set (halves_in old) (n + 1) k → halves_in new ≡ set (halves_in mid) 0 ((n + 1) % 65536)
    → list_in new ≡ pushed (room old) (list_in old) k
push_put old mid new n k len free put count =
    let ps = places (halves_in old) in
    let more : (n + 1) % 65536 ≡ suc n = omega arith in
    recount mid new ((n + 1) % 65536) count
    ∙ ap (λ (m : ℕ). take m (places (halves_in mid))) more
    ∙ ap (take (suc n)) (ap places put ∙ place_put (halves_in old) n k)
    ∙ take-suc-set ps n k (omega (arith, length_places (halves_in old), length_halves old))
    ∙ ap (λ (l : List ℕ). l ++ (k ∷ [])) (ap (λ (m : ℕ). take m ps) len ∙ list_places old)
    ∙ sym (pushed_more (room old) (list_in old) k (omega arith))

-- ---- contains

module _ (k : ℕ) (l : List ℕ) (i : ℕ) where
  pub member_yes : i < length l → k ≡ get_or l i 0 → member k (drop i l) ≡ true
  member_yes h e = rw (drop-cons l i 0 h, eq-eqb k (get_or l i 0) e)

  pub member_no : i < length l → (k ≡ get_or l i 0 → ⊥) → member k (drop i l) ≡ member k (drop (i + 1) l)
  member_no h e = rw (add-one i, drop-cons l i 0 h, ne_eqb k (get_or l i 0) e)

  pub member_end : length l ≤ i → member k (drop i l) ≡ false
  member_end h = ap (member k) (drop_of_length-le l {i = i} h)

-- ---- insert at p

module _ (n p k : ℕ) (xs : List ℕ) where
  pub inserted_more : p ≤ length xs → length xs < n → inserted_at n p k xs ≡ take p xs ++ (k ∷ drop p xs)
  inserted_more h free = rw (le-leb p (length xs) h, lt-ltb (length xs) n free)

  pub inserted_past : length xs < p → inserted_at n p k xs ≡ xs
  inserted_past h = rw (lt-leb p (length xs) h)

  pub inserted_full : p ≤ length xs → n ≤ length xs → inserted_at n p k xs ≡ xs
  inserted_full h full = rw (le-leb p (length xs) h, le-ltb (length xs) n full)

-- l with v at place p
abbrev pub opened : List ℕ → ℕ → ℕ → List ℕ
opened l p v = take p l ++ (v ∷ drop p l)

length-opened : (l : List ℕ) (p v : ℕ) → p ≤ length l → length (opened l p v) ≡ suc (length l)
length-opened l p v h = length-append (take p l) (v ∷ drop p l) ∙ omega (arith, length-take-le p l h, length-drop p l)

pub opened_here : (l : List ℕ) (p v : ℕ) → p ≤ length l → get_or (opened l p v) p 0 ≡ v
opened_here l zero v h = refl
opened_here [] (suc p) v h = absurd (omega arith)
opened_here (x ∷ l) (suc p) v h = opened_here l p v (omega arith)

opened_after : (l : List ℕ) (p v i : ℕ) → p ≤ i → i < length l → get_or (opened l p v) (suc i) 0 ≡ get_or l i 0
opened_after l zero v i b h = refl
opened_after [] (suc p) v i b h = absurd (omega arith)
opened_after (x ∷ l) (suc p) v zero b h = absurd (omega arith)
opened_after (x ∷ l) (suc p) v (suc i) b h = opened_after l p v i (omega arith) (omega arith)

-- the places to i are those of `whole`, and the others are not touched; old and new are halves
pub record Opening (whole : List ℕ) (i : ℕ) (old new : List ℕ) : Type 0 where
  pub front : take i (places new) ≡ take i whole
  pub rest : drop i (places new) ≡ drop i (places old)

pub opening_none : (bs : List ℕ) (p v : ℕ) → p ≤ length (list_in bs) → Opening (opened (list_in bs) p v) p (halves_in bs) (halves_in bs)
opening_none bs p v h =
    let l = list_in bs in
    record {
      front =
          sym (take-take p (length l) (places (halves_in bs)) h)
          ∙ ap (take p) (list_places bs)
          ∙ sym (take_at (take p l) (v ∷ drop p l) p (length-take-le p l h));
      rest = refl;
    }

module _ (whole : List ℕ) (i : ℕ) (old new : List ℕ) (r : Opening whole i old new) where
  opening_read : get_or new (i + 1) 0 ≡ get_or old (i + 1) 0
  opening_read =
      let here : (l : List ℕ) → get_or l i 0 ≡ get_or (drop i l) 0 0 = λ l. sym (get_or-drop i l 0 0 ∙ ap (λ (n : ℕ). get_or l n 0) (add-zero i)) in
      place_at new i ∙ here (places new) ∙ ap (λ (l : List ℕ). get_or l 0 0) r.rest ∙ sym (here (places old)) ∙ sym (place_at old i)

  pub opening_more : (put : List ℕ) (x : ℕ) → i < length whole → i < length (places new) → x ≡ get_or whole i 0 → put ≡ set new (i + 1) x → Opening whole (i + 1) old put
  opening_more put x h size at e =
      let now = ap places e ∙ place_put new i x in
      record {
        front =
            ap (take (i + 1)) now
            ∙ ap (λ (n : ℕ). take n (set (places new) i x)) (add-one i)
            ∙ take-suc-set (places new) i x size
            ∙ ap (λ (l : List ℕ). l ++ (x ∷ [])) r.front
            ∙ ap (λ (y : ℕ). take i whole ++ (y ∷ [])) at
            ∙ sym (ap (λ (n : ℕ). take n whole) (add-one i) ∙ take-suc whole i 0 h);
        rest =
            ap (drop (i + 1)) now
            ∙ drop-set-lt (i + 1) (places new) i x (omega arith)
            ∙ sym (drop-drop 1 i (places new))
            ∙ ap (drop 1) r.rest
            ∙ drop-drop 1 i (places old);
      }

-- what stands at place i goes to the next
pub opening_next : (bs new : List ℕ) (p v i : ℕ) → Opening (opened (list_in bs) p v) i (halves_in bs) new → p ≤ i → i < length (list_in bs)
    → get_or new (i + 1) 0 ≡ get_or (opened (list_in bs) p v) (i + 1) 0
opening_next bs new p v i r b h =
    opening_read (opened (list_in bs) p v) i (halves_in bs) new r
    ∙ list_at bs i h
    ∙ sym (ap (λ (n : ℕ). get_or (opened (list_in bs) p v) n 0) (add-one i) ∙ opened_after (list_in bs) p v i b h)

pub opening_put : (bs now : List ℕ) (p v n i : ℕ) (put : List ℕ) (x : ℕ) → n ≡ length (list_in bs) → p ≤ n → i ≤ n → n < room bs → length now ≡ length bs
    → Opening (opened (list_in bs) p v) i (halves_in bs) (halves_in now) → x ≡ get_or (opened (list_in bs) p v) i 0 → put ≡ set (halves_in now) (i + 1) x
    → Opening (opened (list_in bs) p v) (i + 1) (halves_in bs) put
opening_put bs now p v n i put x len h b free same r at e =
    opening_more (opened (list_in bs) p v) i (halves_in bs) (halves_in now) r put x
    (omega (arith, length-opened (list_in bs) p v (omega arith)))
    (omega (arith, length_places (halves_in now), length_halves now))
    at e

pub opening_all : (old mid new : List ℕ) (p v n : ℕ) → n ≡ length (list_in old) → p ≤ n → n < room old
    → Opening (opened (list_in old) p v) (n + 1) (halves_in old) (halves_in mid) → halves_in new ≡ set (halves_in mid) 0 ((n + 1) % 65536)
    → list_in new ≡ inserted_at (room old) p v (list_in old)
opening_all old mid new p v n len h free r count =
    let l = list_in old in
    let more : (n + 1) % 65536 ≡ n + 1 = mod-eq_of_lt (omega arith) in
    recount mid new ((n + 1) % 65536) count
    ∙ ap (λ (m : ℕ). take m (places (halves_in mid))) more
    ∙ r.front
    ∙ take_all (n + 1) (opened l p v) (omega (arith, length-opened l p v (omega arith)))
    ∙ sym (inserted_more (room old) p v l (omega arith) (omega arith))

-- ---- a list cut short

pub shortened : (old new : List ℕ) (n : ℕ) → n < length (list_in old) → halves_in new ≡ set (halves_in old) 0 (n % 65536) → list_in new ≡ take n (list_in old)
shortened old new n h e =
    let small : n % 65536 ≡ n = mod-eq_of_lt (omega (arith, list_short old)) in
    recount old new (n % 65536) e
    ∙ ap (λ (m : ℕ). take m (places (halves_in old))) small
    ∙ sym (take-take n (length (list_in old)) (places (halves_in old)) (omega arith))
    ∙ ap (take n) (list_places old)
