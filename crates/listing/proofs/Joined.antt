-- Laws of fields one space apart: a line that grows by a field, and the fields of a line that is read back.
use mathlib.Core.Path.{◌≡◌, refl, ap, sym, ◌∙◌}
use mathlib.Core.Bool.{Bool, true, false, cond, ◌&&◌, true≢false}
use mathlib.Core.List.{List, map, [], ◌∷◌, ◌++◌, append_assoc, append-nil, map-append}
use Prim.Native.Nat.{ℕ, ◌+◌, ◌≤◌, ◌<◌}
use native.Mathlib.Numerals.{add-one}
use native.Mathlib.Omega.{arith}
use borrow.Author.Tests.{ne_eqb}
use lib.ListN.{length, take, drop, get_or, length-append, take-append-drop}
use lib.Seq.{take-suc, take_all}
use Rattle.listing.specs.Line.{fields, is_digit, all, decimal}
use Rattle.listing.specs.Write.{decimal_of, spaced, joined, fields_of, numbers_of, line_of}
use Rattle.listing.proofs.Fields.{fields_byte}
use Rattle.listing.proofs.Decimal.{decimal_digits, decimal-back}

spaced-append : (fs gs : List (List ℕ)) → spaced (fs ++ gs) ≡ spaced fs ++ spaced gs
spaced-append [] gs = refl
spaced-append (f ∷ fs) gs = ap (λ (l : List ℕ). 32 ∷ (f ++ l)) (spaced-append fs gs) ∙ ap (λ (l : List ℕ). 32 ∷ l) (sym (append_assoc f (spaced fs) (spaced gs)))

-- a field after the first
abbrev pub later : ℕ → List ℕ
later n = 32 ∷ decimal_of n

-- The first three fields of a line.
pub head_fields : (ms : ℕ) (b : Bool) (n : ℕ) → fields_of (numbers_of ms b n []) ≡ decimal_of ms ++ later (cond b 1 0) ++ later n
unfolding joined
head_fields ms b n = simp (append-nil, append_assoc)

-- the fields of a line with the first i of its tags
abbrev pub so_far : ℕ → Bool → List ℕ → ℕ → List ℕ
so_far ms b tags i = fields_of (numbers_of ms b (length tags) (take i tags))

module _ (ms : ℕ) (b : Bool) (n : ℕ) (xs ys : List ℕ) where
  fields-append : fields_of (numbers_of ms b n (xs ++ ys)) ≡ fields_of (numbers_of ms b n xs) ++ spaced (map decimal_of ys)
  unfolding joined
  fields-append = rw (map-append decimal_of xs ys, spaced-append (map decimal_of xs) (map decimal_of ys)) (simp append_assoc)

module _ (ms : ℕ) (b : Bool) (tags : List ℕ) (i : ℕ) where
  -- One tag more.
  pub so_far_more : i < length tags → so_far ms b tags (i + 1) ≡ so_far ms b tags i ++ later (get_or tags i 0)
  so_far_more h =
      rw (add-one, take-suc tags i 0 h) (fields-append ms b (length tags) (take i tags) (get_or tags i 0 ∷ []) ∙ rw append-nil)

  -- All tags.
  pub so_far_all : length tags ≤ i → line_of ms b tags ≡ so_far ms b tags i ++ (10 ∷ [])
  unfolding line_of
  so_far_all h = rw (take_all i tags h)

  -- They are a part of the line.
  pub so_far_within : length (so_far ms b tags i) ≤ length (line_of ms b tags)
  unfolding line_of
  so_far_within =
      let e = ap (λ (l : List ℕ). length (fields_of (numbers_of ms b (length tags) l))) (sym (take-append-drop i tags)) in
      let f = ap length (fields-append ms b (length tags) (take i tags) (drop i tags)) in
      let g = length-append (so_far ms b tags i) (spaced (map decimal_of (drop i tags))) in
      let k = length-append (fields_of (numbers_of ms b (length tags) tags)) (10 ∷ []) in
      omega arith

-- ---- read back

one_field : (f rest : List ℕ) (fs : List (List ℕ)) → all is_digit f ≡ true → fields rest ≡ [] ∷ fs → fields (f ++ rest) ≡ f ∷ fs
one_field [] rest fs h e = e
one_field (b ∷ f) rest fs h e = go (is_digit b) refl h (λ d. one_field f rest fs d e)
  where
    go : (t : Bool) → is_digit b ≡ t → (t && all is_digit f) ≡ true → (all is_digit f ≡ true → fields (f ++ rest) ≡ f ∷ fs) → fields (b ∷ (f ++ rest)) ≡ (b ∷ f) ∷ fs
    go true p d again = fields_byte b (f ++ rest) (ne_eqb b 32 (no_space p)) ∙ ap (λ (l : List (List ℕ)). (b ∷ get_or l 0 []) ∷ drop 1 l) (again d)
      where
        no_space : is_digit b ≡ true → b ≡ 32 → ⊥
        no_space q r = true≢false (sym (rw r at q))
    go false p d again = absurd (true≢false (sym d))

-- The fields of a line of numbers are just those numbers.
pub fields_back : (n : ℕ) (ns : List ℕ) → fields (fields_of (n ∷ ns)) ≡ map decimal_of (n ∷ ns)
unfolding joined fields
fields_back n [] = one_field (decimal_of n) [] [] (decimal_digits n) refl
fields_back n (m ∷ ns) = one_field (decimal_of n) (spaced (map decimal_of (m ∷ ns))) (map decimal_of (m ∷ ns)) (decimal_digits n) (ap (λ (l : List (List ℕ)). [] ∷ l) (fields_back m ns))

-- So a line of numbers tells them.
pub numbers_back : (n : ℕ) (ns : List ℕ) → map decimal (fields (fields_of (n ∷ ns))) ≡ n ∷ ns
numbers_back n ns = ap (map decimal) (fields_back n ns) ∙ each (n ∷ ns)
  where
    each : (l : List ℕ) → map decimal (map decimal_of l) ≡ l
    each [] = refl
    each (x ∷ l) = rw (decimal-back x) (ap (λ (r : List ℕ). x ∷ r) (each l))
