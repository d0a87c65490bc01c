-- `split_bit` says what rule 1 says: a bit is a word, a dot and digits, neither of them empty, and every such name is a bit of that word.
use mathlib.Core.Path.{◌≡◌, refl, ap, sym, ◌∙◌}
use mathlib.Core.Bool.{Bool, true, false, cond, true≢false, ◌&&◌}
use mathlib.Core.Logic.{◌⊎◌, inl, inr, ⊎_elim}
use mathlib.Core.List.{List, [], ◌∷◌, ◌++◌}
use Prim.Native.Nat.{ℕ, suc, ◌+◌, ◌≤◌, ◌<◌}
use native.Mathlib.Omega.{arith}
use borrow.Author.Tests.{eqb-true, leb-true, ltb-true, lt-ltb, ne_eqb}
use lib.Dec.{eqb, leb, ltb}
use lib.Seq.{drop-append-add}
use lib.ListN.{length, drop, length-append}
use Rattle.std.specs.Prelude.{Some, None}
use Rattle.names.specs.Bits.{last_dot, all_digits, split_bit}

-- a name s cut at a dot: its word has w bytes, and one or more digits follow
pub record Split (s : List ℕ) (w : ℕ) : Type 0 where
  pub word : List ℕ
  pub digits : List ℕ
  pub whole : s ≡ word ++ 46 ∷ digits
  pub size : length word ≡ w
  pub some : 0 < w
  pub more : 0 < length digits
  pub plain : all_digits digits ≡ true

-- ---- every such name is a bit

-- a digit is no dot
first_digit : (x : ℕ) (xs : List ℕ) → all_digits (x ∷ xs) ≡ true → (eqb x 46 ≡ false) × (all_digits xs ≡ true)
unfolding all_digits
first_digit x xs e = go (leb 48 x) refl (leb x 57) e
  where
    go : (t : Bool) → leb 48 x ≡ t → (u : Bool) → (t && (u && all_digits xs)) ≡ true → (eqb x 46 ≡ false) × (all_digits xs ≡ true)
    go true p true q = let high : 48 ≤ x = leb-true _ _ p in (ne_eqb x 46 (λ z. omega arith), q)
    go true p false q = absurd (true≢false (sym q))
    go false p u q = absurd (true≢false (sym q))

dot_none : (s : List ℕ) (at last : ℕ) → all_digits s ≡ true → last_dot at last s ≡ last
unfolding last_dot
dot_none [] at last e = refl
dot_none (x ∷ xs) at last e = let d = first_digit x xs e in rw d.0 (dot_none xs (suc at) last d.1)

dot_last : (word digits : List ℕ) (at last : ℕ) → all_digits digits ≡ true → last_dot at last (word ++ 46 ∷ digits) ≡ at + length word
unfolding last_dot
dot_last [] digits at last e = dot_none digits (suc at) at e ∙ omega arith
dot_last (x ∷ word) digits at last e = dot_last word digits (suc at) (cond (eqb x 46) at last) e ∙ omega arith

pub split_word : (s : List ℕ) (w : ℕ) → Split s w → split_bit s ≡ Some w
unfolding split_bit
split_word s w p =
    let place : last_dot 0 0 s ≡ w = rw p.whole (dot_last p.word p.digits 0 0 p.plain ∙ omega (arith, p.size)) in
    let rest : drop (w + 1) s ≡ p.digits = rw (p.whole, ← p.size) (drop-append-add p.word (46 ∷ p.digits) 1) in
    let room : w + 1 < length s = rw p.whole (simp length-append (omega (arith, p.size, p.more))) in
    simp (place, lt-ltb 0 w p.some, lt-ltb (w + 1) (length s) room, rest, p.plain)

-- ---- and a bit is such a name

-- r is the place of a dot of s, whose first byte has the place `at`
record DotAt (s : List ℕ) (at r : ℕ) : Type 0 where
  word : List ℕ
  rest : List ℕ
  whole : s ≡ word ++ 46 ∷ rest
  place : r ≡ at + length word

-- the place of the last dot is a dot's, if it isn't the one given for none
dot_at : (s : List ℕ) (at last : ℕ) → (last_dot at last s ≡ last) ⊎ DotAt s at (last_dot at last s)
unfolding last_dot
dot_at [] at last = inl refl
dot_at (x ∷ xs) at last = go (eqb x 46) refl (dot_at xs (suc at) (cond (eqb x 46) at last))
  where
    go : (t : Bool) → eqb x 46 ≡ t → (last_dot (suc at) (cond t at last) xs ≡ cond t at last) ⊎ DotAt xs (suc at) (last_dot (suc at) (cond t at last) xs)
        → (last_dot (suc at) (cond t at last) xs ≡ last) ⊎ DotAt (x ∷ xs) at (last_dot (suc at) (cond t at last) xs)
    go t e (inr d) = inr (record { word = x ∷ d.word; rest = d.rest; whole = ap (λ (l : List ℕ). x ∷ l) d.whole; place = d.place ∙ omega arith })
    go true e (inl p) = inr (record { word = []; rest = xs; whole = ap (λ (b : ℕ). b ∷ xs) (eqb-true _ _ e); place = p ∙ omega arith })
    go false e (inl p) = inl p

dot_inside : (s : List ℕ) (at r : ℕ) → DotAt s at r → r < at + length s
dot_inside s at r d = rw d.whole (simp length-append (omega (arith, d.place)))

-- a last dot that has a word before it stands within the name
pub dot_within : (s : List ℕ) → (last_dot 0 0 s ≡ 0 → ⊥) → last_dot 0 0 s < length s
dot_within s n = ⊎_elim (λ p. absurd (n p)) (λ d. omega (arith, dot_inside s 0 (last_dot 0 0 s) d)) (dot_at s 0 0)

pub word_split : (s : List ℕ) (w : ℕ) → split_bit s ≡ Some w → Split s w
unfolding split_bit
word_split s w e =
    go (last_dot 0 0 s) (dot_at s 0 0) (ltb 0 (last_dot 0 0 s)) refl (ltb (last_dot 0 0 s + 1) (length s)) refl (all_digits (drop (last_dot 0 0 s + 1) s)) refl e
  where
    no : {A : Type 0} → None ≡ Some w → A
    no p = let z : true ≡ false = cc in absurd (true≢false z)

    none : {A : Type 0} (r : ℕ) → r ≡ 0 → 0 < r → A
    none r p l = absurd (never p l)
      where
        never : r ≡ 0 → 0 < r → ⊥
        never q m = omega arith

    made : (r : ℕ) → DotAt s 0 r → r ≡ w → 0 < r → r + 1 < length s → all_digits (drop (r + 1) s) ≡ true → Split s w
    made r d p some room plain =
        let size : length d.word ≡ r = omega (arith, d.place) in
        let rest : drop (r + 1) s ≡ d.rest = rw (d.whole, ← size) (drop-append-add d.word (46 ∷ d.rest) 1) in
        let long : length s ≡ length d.word + suc (length d.rest) = rw d.whole (length-append d.word (46 ∷ d.rest)) in
        record { word = d.word; digits = d.rest; whole = d.whole; size = size ∙ p; some = omega arith; more = omega arith; plain = rw rest at plain }

    go : (r : ℕ) → (r ≡ 0) ⊎ DotAt s 0 r → (a : Bool) → ltb 0 r ≡ a → (b : Bool) → ltb (r + 1) (length s) ≡ b → (c : Bool) → all_digits (drop (r + 1) s) ≡ c
        → cond (a && (b && c)) (Some r) None ≡ Some w → Split s w
    go r d false p1 b p2 c p3 q = no q
    go r d true p1 false p2 c p3 q = no q
    go r d true p1 true p2 false p3 q = no q
    go r (inl z) true p1 true p2 true p3 q = none r z (ltb-true _ _ p1)
    go r (inr d) true p1 true p2 true p3 q = made r d (cc) (ltb-true _ _ p1) (ltb-true _ _ p2) p3

-- a name that is no bit's has no such cut
pub plain_split : (s : List ℕ) → split_bit s ≡ None → (w : ℕ) → Split s w → ⊥
plain_split s e w p =
    let q : split_bit s ≡ Some w = split_word s w p in
    let z : true ≡ false = cc in
    true≢false z
