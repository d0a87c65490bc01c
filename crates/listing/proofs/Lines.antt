-- Laws of lines: what the letter makes of the fields after it, and one byte more of a search for the line feed.
use mathlib.Core.Path.{◌≡◌, refl, ◌∙◌}
use mathlib.Core.Bool.{Bool, true, false, cond, and-false}
use mathlib.Core.List.{List, [], ◌∷◌}
use Prim.Native.Nat.{ℕ, suc, ◌+◌, ◌-◌, ◌≤◌, ◌<◌}
use native.Mathlib.Nat.{not-suc-le-zero}
use native.Mathlib.Numerals.{add-one}
use native.Mathlib.Omega.{arith}
use borrow.Author.Tests.{eqb-true, eq-eqb, ne_eqb}
use lib.Dec.{eqb}
use Rattle.std.specs.Prelude.{Option, Some, None}
use lib.ListN.{length, take, drop, get_or, length-drop, drop_of_length-le}
use lib.Seq.{drop-cons, take_all}
use Rattle.listing.specs.Line.{fields, all, is_number, decimal, are_numbers, value, three_in, as_options, as_name, as_set, as_round, by_letter, parsed, line_end}
use Rattle.listing.specs.declared.line.Line.{Line}
use Rattle.listing.specs.declared.line.Line.TheVariants.{Options, Name, Set, Round, Other}
use Rattle.listing.proofs.Fields.{fields_cons, fields_space, fields_byte}

-- ---- the forms

-- What three numbers are told as, by a line of three numbers.
abbrev pub told : (ℕ → ℕ → ℕ → Line) → Option (ℕ × ℕ × ℕ) → Line
told line (Some v) = line v.0 v.1 v.2
told line None = Other

told_as : (line : ℕ → ℕ → ℕ → Line) (fs : List (List ℕ)) → cond (are_numbers 3 fs) (line (value fs 0) (value fs 1) (value fs 2)) Other ≡ told line (three_in fs)
unfolding three_in
told_as line fs = go (are_numbers 3 fs)
  where
    go : (t : Bool) → cond t (line (value fs 0) (value fs 1) (value fs 2)) Other ≡ told line (cond t (Some (value fs 0, value fs 1, value fs 2)) None)
    go true = refl
    go false = refl

pub options_told : (fs : List (List ℕ)) → as_options fs ≡ told Options (three_in fs)
unfolding as_options
options_told fs = told_as Options fs

pub set_told : (fs : List (List ℕ)) → as_set fs ≡ told Set (three_in fs)
unfolding as_set
set_told fs = told_as Set fs

pub round_none : (fs : List (List ℕ)) → all is_number fs ≡ false → as_round fs ≡ Other
unfolding as_round
round_none fs e = rw e

pub round_more : (f s : List ℕ) → as_round (f ∷ fields s) ≡ Other
unfolding as_round
round_more f s = rw (fields_cons s, ne_eqb (suc (suc (length (drop 1 (fields s))))) 1 (more (length (drop 1 (fields s)))), and-false)
  where
    more : (n : ℕ) → suc (suc n) ≡ 1 → ⊥
    more n e = omega arith

pub round_is : (f : List ℕ) → is_number f ≡ true → as_round (f ∷ []) ≡ Round (decimal f)
unfolding as_round
round_is f e = rw e

-- ---- a name

module _ (s : List ℕ) (i : ℕ) where
  pub name_end : length s ≤ i → as_name (fields (drop i s)) ≡ Name
  unfolding as_name fields
  name_end h = rw (drop_of_length-le s h)

  pub name_space : i < length s → get_or s i 0 ≡ 32 → as_name (fields (drop i s)) ≡ Other
  unfolding as_name
  name_space h e =
      rw (drop-cons s i 0 h, fields_space (get_or s i 0) (drop (suc i) s) (eq-eqb _ _ e), fields_cons (drop (suc i) s))
      (rw (ne_eqb (suc (suc (length (drop 1 (fields (drop (suc i) s)))))) 1 (more (length (drop 1 (fields (drop (suc i) s)))))))
    where
      more : (n : ℕ) → suc (suc n) ≡ 1 → ⊥
      more n e = omega arith

  pub name_byte : i < length s → (get_or s i 0 ≡ 32 → ⊥) → as_name (fields (drop i s)) ≡ as_name (fields (drop (i + 1) s))
  unfolding as_name
  name_byte h n = rw (drop-cons s i 0 h, fields_byte (get_or s i 0) (drop (suc i) s) (ne_eqb _ _ n), add-one) (rw (fields_cons (drop (suc i) s)))

-- ---- the letter

-- what a letter and a space make of the fields after them
abbrev pub lettered : ℕ → List (List ℕ) → Line
lettered b fs = cond (eqb b 111) (as_options fs) (cond (eqb b 110) (as_name fs) (cond (eqb b 115) (as_set fs) (cond (eqb b 99) (as_round fs) Other)))

pub line_short : (line : List ℕ) → length line < 2 → parsed line ≡ Other
unfolding fields by_letter as_options as_name as_set as_round
line_short [] h = refl
line_short (b ∷ []) h = go (eqb b 32) (eqb b 111) (eqb b 110) (eqb b 115) (eqb b 99)
  where
    none : (t u v w : Bool) → cond t Other (cond u Other (cond v Other (cond w Other Other))) ≡ Other
    none true u v w = refl
    none false true v w = refl
    none false false true w = refl
    none false false false true = refl
    none false false false false = refl

    go : (x t u v w : Bool) → by_letter (cond x ([] ∷ [] ∷ []) ((b ∷ []) ∷ [])) ≡ Other
    go true t u v w = refl
    go false t u v w = none (eqb b 111) (eqb b 110) (eqb b 115) (eqb b 99)
line_short (b ∷ d ∷ bs) h = absurd (few (length bs) h)
  where
    few : (n : ℕ) → suc (suc n) < 2 → ⊥
    few n l = omega arith

pub line_joined : (line : List ℕ) → 1 < length line → (get_or line 1 0 ≡ 32 → ⊥) → parsed line ≡ Other
unfolding by_letter
line_joined [] h n = absurd (not-suc-le-zero h)
line_joined (b ∷ []) h n = absurd (one h)
  where
    one : 1 < 1 → ⊥
    one l = omega arith
line_joined (b ∷ d ∷ bs) h n = go (eqb b 32) refl
  where
    go : (t : Bool) → eqb b 32 ≡ t → parsed (b ∷ d ∷ bs) ≡ Other
    go true e = rw (fields_space b (d ∷ bs) e)
    go false e = rw (fields_byte b (d ∷ bs) e, fields_byte d bs (ne_eqb d 32 n))

pub line_lettered : (line : List ℕ) → 1 < length line → get_or line 1 0 ≡ 32 → parsed line ≡ lettered (get_or line 0 0) (fields (drop 2 line))
unfolding by_letter
line_lettered [] h e = absurd (not-suc-le-zero h)
line_lettered (b ∷ []) h e = absurd (one h)
  where
    one : 1 < 1 → ⊥
    one l = omega arith
line_lettered (b ∷ d ∷ bs) h e = go (eqb b 32) refl
  where
    go : (t : Bool) → eqb b 32 ≡ t → parsed (b ∷ d ∷ bs) ≡ lettered b (fields bs)
    go true p =
        let s : b ≡ 32 = eqb-true b 32 p in
        rw (fields_space b (d ∷ bs) p) (rw s)
    go false p = rw (fields_byte b (d ∷ bs) p, fields_space d bs (eq-eqb d 32 e))

-- So does the slice after the two.
pub line_rest : (line : List ℕ) (b : ℕ) → 1 < length line → get_or line 1 0 ≡ 32 → get_or line 0 0 ≡ b
    → parsed line ≡ lettered b (fields (take (length line - 2) (drop 2 line)))
line_rest line b h e f =
    line_lettered line h e ∙ rw (f, take_all (length line - 2) (drop 2 line) (omega (arith, length-drop 2 line)))

-- Any other letter.
pub line_unlettered : (line : List ℕ) → 1 < length line → get_or line 1 0 ≡ 32
    → (get_or line 0 0 ≡ 111 → ⊥) → (get_or line 0 0 ≡ 110 → ⊥) → (get_or line 0 0 ≡ 115 → ⊥) → (get_or line 0 0 ≡ 99 → ⊥) → parsed line ≡ Other
line_unlettered line h e p q r s = line_lettered line h e ∙ rw (ne_eqb _ _ p, ne_eqb _ _ q, ne_eqb _ _ r, ne_eqb _ _ s)

-- ---- the line feed

module _ (s : List ℕ) (i : ℕ) where
  pub feed_end : length s ≤ i → line_end i (drop i s) ≡ None
  unfolding line_end
  feed_end h = rw (drop_of_length-le s h)

  pub feed_here : i < length s → get_or s i 0 ≡ 10 → line_end i (drop i s) ≡ Some i
  unfolding line_end
  feed_here h e = rw (drop-cons s i 0 h, eq-eqb _ _ e)

  pub feed_later : i < length s → (get_or s i 0 ≡ 10 → ⊥) → line_end i (drop i s) ≡ line_end (i + 1) (drop (i + 1) s)
  unfolding line_end
  feed_later h n = rw (drop-cons s i 0 h, ne_eqb _ _ n, add-one)
