-- What a line that is read holds: numbers below 10 ^ 15; a name from its third byte on.
use mathlib.Core.Path.{◌≡◌, refl, ap, sym, ◌∙◌}
use mathlib.Core.Bool.{Bool, true, false, cond, not, ◌&&◌, true≢false}
use mathlib.Core.List.{List, [], ◌∷◌}
use Prim.Native.Nat.{ℕ, zero, suc, ◌+◌, ◌*◌, ◌-◌, ◌^◌, ◌≤◌, ◌<◌}
use native.Mathlib.Nat.{pow-suc, pow-le-pow_right, mul-le-mul_right}
use native.Mathlib.Omega.{arith}
use borrow.Author.Tests.{leb-true, ltb-true, ltb-false, eqb-true}
use lib.Dec.{leb, ltb, eqb}
use lib.ListN.{length, drop, get_or}
use Rattle.listing.specs.Line.{fields, first, is_digit, all, is_number, decimal_after, decimal, are_numbers, value, is_byte, as_options, as_name, as_set, as_round, by_letter, parsed}
use Rattle.listing.specs.declared.line.Line.{Line}
use Rattle.listing.specs.declared.line.Line.TheVariants.{Options, Name, Set, Round, Other}
use Rattle.listing.proofs.Lines.{line_short}
use Rattle.listing.proofs.Fields.{fields_cons, fields_space, fields_byte, fields_last, fields_more}

both : (s t : Bool) → (s && t) ≡ true → (s ≡ true) × (t ≡ true)
both true t e = (refl, e)
both false t e = absurd (true≢false (sym e))

after-below : (v : ℕ) (f : List ℕ) → all is_digit f ≡ true → decimal_after v f < (v + 1) * 10 ^ length f
after-below v [] h = omega arith
after-below v (b ∷ f) h =
    let d = both (is_digit b) (all is_digit f) h in
    let l : b ≤ 57 = leb-true b 57 (both (leb 48 b) (leb b 57) d.0).1 in
    let r = after-below (v * 10 + (b - 48)) f d.1 in
    let m : v * 10 + (b - 48) + 1 ≤ (v + 1) * 10 = omega arith in
    let k = mul-le-mul_right (10 ^ length f) m in
    rw pow-suc (omega arith)

pub number_below : (f : List ℕ) → is_number f ≡ true → decimal f < 10 ^ 15
unfolding is_number
number_below f h =
    let d = both (leb 1 (length f) && leb (length f) 15) (all is_digit f) h in
    let l : length f ≤ 15 = leb-true (length f) 15 (both (leb 1 (length f)) (leb (length f) 15) d.0).1 in
    let r = after-below 0 f d.1 in
    let p : 10 ^ length f ≤ 10 ^ 15 = pow-le-pow_right (omega arith) l in
    omega arith

value-below : (fs : List (List ℕ)) → all is_number fs ≡ true → (i : ℕ) → value fs i < 10 ^ 15
value-below [] h i = omega arith
value-below (f ∷ fs) h zero = number_below f (both (is_number f) (all is_number fs) h).0
value-below (f ∷ fs) h (suc i) = value-below fs (both (is_number f) (all is_number fs) h).1 i

abbrev pub Small : Line → Type 0
Small (Options a b c) = (a < 10 ^ 15) × (b < 10 ^ 15) × (c < 10 ^ 15)
Small Name = Unit {0}
Small (Set a b c) = (a < 10 ^ 15) × (b < 10 ^ 15) × (c < 10 ^ 15)
Small (Round a) = a < 10 ^ 15
Small Other = Unit {0}

options_small : (fs : List (List ℕ)) → Small (as_options fs)
unfolding as_options
options_small fs = go (are_numbers 3 fs) refl
  where
    go : (t : Bool) → are_numbers 3 fs ≡ t → Small (cond t (Options (value fs 0) (value fs 1) (value fs 2)) Other)
    go true e =
        let h = (both (all is_number fs) _ e).0 in
        (value-below fs h 0, value-below fs h 1, value-below fs h 2)
    go false e = tt

set_small : (fs : List (List ℕ)) → Small (as_set fs)
unfolding as_set
set_small fs = go (are_numbers 3 fs) refl
  where
    go : (t : Bool) → are_numbers 3 fs ≡ t → Small (cond t (Set (value fs 0) (value fs 1) (value fs 2)) Other)
    go true e =
        let h = (both (all is_number fs) _ e).0 in
        (value-below fs h 0, value-below fs h 1, value-below fs h 2)
    go false e = tt

round_small : (fs : List (List ℕ)) → Small (as_round fs)
unfolding as_round
round_small fs = go (are_numbers 1 fs) refl
  where
    go : (t : Bool) → are_numbers 1 fs ≡ t → Small (cond t (Round (value fs 0)) Other)
    go true e = value-below fs (both (all is_number fs) _ e).0 0
    go false e = tt

name_small : (fs : List (List ℕ)) → Small (as_name fs)
unfolding as_name
name_small fs = go (eqb (length fs) 1)
  where
    go : (t : Bool) → Small (cond t Name Other)
    go true = tt
    go false = tt

pub parsed_small : (line : List ℕ) → Small (parsed line)
unfolding by_letter
parsed_small line = go (fields line)
  where
    pick : (t u v w : Bool) (fs : List (List ℕ)) → Small (cond t (as_options fs) (cond u (as_name fs) (cond v (as_set fs) (cond w (as_round fs) Other))))
    pick true u v w fs = options_small fs
    pick false true v w fs = name_small fs
    pick false false true w fs = set_small fs
    pick false false false true fs = round_small fs
    pick false false false false fs = tt

    go : (fs : List (List ℕ)) → Small (by_letter fs)
    go [] = tt
    go (f ∷ fs) = pick (is_byte 111 f) (is_byte 110 f) (is_byte 115 f) (is_byte 99 f) fs

-- ---- a name

-- A field alone is all there is.
whole : (s : List ℕ) → length (fields s) ≡ 1 → fields s ≡ s ∷ []
unfolding fields
whole [] e = refl
whole (b ∷ bs) e = go (eqb b 32) refl (whole bs)
  where
    go : (t : Bool) → eqb b 32 ≡ t → (length (fields bs) ≡ 1 → fields bs ≡ bs ∷ []) → fields (b ∷ bs) ≡ (b ∷ bs) ∷ []
    go true p again = absurd (two (ap length (fields_cons bs)) (rw (fields_space b bs p) at e))
      where
        two : length (fields bs) ≡ suc (length (drop 1 (fields bs))) → suc (length (fields bs)) ≡ 1 → ⊥
        two q r = omega arith
    go false p again =
        let q : suc (length (drop 1 (fields bs))) ≡ 1 = rw (fields_byte b bs p) at e in
        rw (fields_byte b bs p) (ap (λ (fs : List (List ℕ)). (b ∷ get_or fs 0 []) ∷ drop 1 fs) (again (ap length (fields_cons bs) ∙ q)))

abbrev is_name : Line → Bool
is_name (Options a b c) = false
is_name Name = true
is_name (Set a b c) = false
is_name (Round a) = false
is_name Other = false

-- only `n` and one field after it are a name
by_name_lem : (f : List ℕ) (fs : List (List ℕ)) → is_name (by_letter (f ∷ fs)) ≡ (not (is_byte 111 f) && (is_byte 110 f && eqb (length fs) 1))
unfolding by_letter as_options as_name as_set as_round
by_name_lem f fs = go (is_byte 111 f) (is_byte 110 f) (is_byte 115 f) (is_byte 99 f) (are_numbers 3 fs) (are_numbers 1 fs) (eqb (length fs) 1)
  where
    go : (t u v w three one alone : Bool)
        → is_name (cond t (cond three (Options (value fs 0) (value fs 1) (value fs 2)) Other) (cond u (cond alone Name Other) (cond v (cond three (Set (value fs 0) (value fs 1) (value fs 2)) Other) (cond w (cond one (Round (value fs 0)) Other) Other))))
        ≡ (not t && (u && alone))
    go true u v w true one alone = refl
    go true u v w false one alone = refl
    go false true v w three one true = refl
    go false true v w three one false = refl
    go false false true w true one alone = refl
    go false false true w false one alone = refl
    go false false false true three true alone = refl
    go false false false true three false alone = refl
    go false false false false three one alone = refl

is_n : (f : List ℕ) → is_byte 110 f ≡ true → f ≡ 110 ∷ []
is_n [] e = absurd (true≢false (sym e))
is_n (b ∷ []) e = ap (λ (n : ℕ). n ∷ []) (eqb-true b 110 e)
is_n (b ∷ d ∷ f) e = absurd (true≢false (sym e))

-- There is room in front of it.
pub name_long : (line : List ℕ) → parsed line ≡ Name → 2 ≤ length line
name_long line e = go (ltb (length line) 2) refl
  where
    go : (t : Bool) → ltb (length line) 2 ≡ t → 2 ≤ length line
    go true h = let z = sym e ∙ line_short line (ltb-true _ _ h) in cc
    go false h = ltb-false _ _ h

-- The name of a name line is all that stands from its third byte on.
pub name_line : (line : List ℕ) → parsed line ≡ Name → fields line ≡ (110 ∷ []) ∷ (drop 2 line ∷ [])
name_line line e =
    let p : (not (is_byte 111 (first line)) && (is_byte 110 (first line) && eqb (length (drop 1 (fields line))) 1)) ≡ true =
    sym (by_name_lem (first line) (drop 1 (fields line))) ∙ ap is_name (ap by_letter (sym (fields_cons line)) ∙ e) in
    let q = (both (not (is_byte 111 (first line))) _ p).1 in
    let n : first line ≡ 110 ∷ [] = is_n (first line) (both (is_byte 110 (first line)) _ q).0 in
    let c : length (drop 1 (fields line)) ≡ 1 = eqb-true _ _ (both (is_byte 110 (first line)) _ q).1 in
    go n c (ltb (length (first line)) (length line)) refl
  where
    go : first line ≡ 110 ∷ [] → length (drop 1 (fields line)) ≡ 1 → (t : Bool) → ltb (length (first line)) (length line) ≡ t → fields line ≡ (110 ∷ []) ∷ (drop 2 line ∷ [])
    go n c true h =
        let m = fields_more line (ltb-true _ _ h) in
        let k : drop (suc (length (first line))) line ≡ drop 2 line = ap (λ (f : List ℕ). drop (suc (length f)) line) n in
        let r : length (fields (drop 2 line)) ≡ 1 = ap (λ (l : List ℕ). length (fields l)) (sym k) ∙ ap (λ (fs : List (List ℕ)). length (drop 1 fs)) (sym m) ∙ c in
        m ∙ ap (λ (f : List ℕ). f ∷ fields (drop (suc (length (first line))) line)) n ∙ ap (λ (l : List ℕ). (110 ∷ []) ∷ fields l) k ∙ ap (λ (fs : List (List ℕ)). (110 ∷ []) ∷ fs) (whole (drop 2 line) r)
    go n c false h = absurd (none (ap (λ (fs : List (List ℕ)). length (drop 1 fs)) (fields_last line (ltb-false _ _ h))) c)
      where
        none : length (drop 1 (fields line)) ≡ 0 → length (drop 1 (fields line)) ≡ 1 → ⊥
        none a b = omega arith
