-- Numbers that are compared one after the other, and where a list that is compared ends.
use mathlib.Core.Path.{◌≡◌, refl, ap, sym, ◌∙◌}
use mathlib.Core.Logic.{◌≢◌}
use mathlib.Core.Bool.{Bool, true, false, cond, true≢false}
use mathlib.Core.List.{List, [], ◌∷◌}
use Prim.Native.Nat.{ℕ, suc, ◌+◌, ◌*◌, ◌/◌, ◌≤◌, ◌<◌}
use native.Mathlib.Numerals.{add-one}
use native.Mathlib.Omega.{arith}
use borrow.Author.Tests.{eq-eqb, eqb-true, ne_eqb, lt-ltb, le-ltb}
use lib.Dec.{eqb, ltb}
use lib.ListN.{length, get_or, take, drop, length-drop}
use Rattle.std.proofs.Common.{drop-cons}
use Rattle.std.proofs.lemmas.List.{drop_all}
use Rattle.std.specs.Prelude.{Result, Ok, Err}
use Rattle.std.specs.Result.{IsErrAnd}
use Rattle.frames.specs.Numbers.{four_at, eight_at}
use Rattle.frames.specs.Compare.{parting}
use Rattle.frames.specs.Answer.{cells_from, compare_numbers, compare_list, first, list_in, behind, compare}
use Rattle.frames.specs.declared.answer.Difference.{Difference}
use Rattle.frames.specs.declared.answer.Difference.TheVariants.{Cell, Malformed}

module _ (numbers recorded : List ℕ) (i : ℕ) where
  cells_at : i < length numbers
      → cells_from i (drop i numbers) recorded ≡ cond (ltb i (length recorded / 8)) (cond (eqb (get_or numbers i 0) (eight_at recorded (8 * i))) (cells_from (suc i) (drop (suc i) numbers) recorded) (Err (Cell i (get_or numbers i 0) (eight_at recorded (8 * i))))) (Err Malformed)
  unfolding cells_from
  cells_at h = rw (drop-cons numbers i 0 h) refl

  -- a number of which none is recorded
  pub cells_cut : i < length numbers → length recorded / 8 ≤ i → cells_from i (drop i numbers) recorded ≡ Err Malformed
  cells_cut h k = cells_at h ∙ rw (le-ltb i (length recorded / 8) k) refl

  cells_beside : i < length numbers → i < length recorded / 8
      → cells_from i (drop i numbers) recorded ≡ cond (eqb (get_or numbers i 0) (eight_at recorded (8 * i))) (cells_from (suc i) (drop (suc i) numbers) recorded) (Err (Cell i (get_or numbers i 0) (eight_at recorded (8 * i))))
  cells_beside h k = cells_at h ∙ rw (lt-ltb i (length recorded / 8) k) refl

  -- a number as recorded
  pub cells_same : (r : ℕ) → r ≡ eight_at recorded (8 * i) → i < length numbers → i < length recorded / 8 → get_or numbers i 0 ≡ r
      → cells_from i (drop i numbers) recorded ≡ cells_from (i + 1) (drop (i + 1) numbers) recorded
  cells_same r p h k e =
      cells_beside h k ∙ ap (λ (t : Bool). cond t (cells_from (suc i) (drop (suc i) numbers) recorded) (Err (Cell i (get_or numbers i 0) (eight_at recorded (8 * i))))) (eq-eqb _ _ (e ∙ p))
      ∙ ap (λ (j : ℕ). cells_from j (drop j numbers) recorded) (sym (add-one i))

  -- the first that is not
  pub cells_other : (r : ℕ) → r ≡ eight_at recorded (8 * i) → i < length numbers → i < length recorded / 8 → get_or numbers i 0 ≢ r
      → cells_from i (drop i numbers) recorded ≡ Err (Cell i (get_or numbers i 0) r)
  cells_other r p h k e =
      cells_beside h k ∙ ap (λ (t : Bool). cond t (cells_from (suc i) (drop (suc i) numbers) recorded) (Err (Cell i (get_or numbers i 0) (eight_at recorded (8 * i))))) (ne_eqb _ _ (λ q. e (q ∙ sym p)))
      ∙ ap (λ (m : ℕ). Err (Cell i (get_or numbers i 0) m)) (sym p)

  -- none is left
  cells_end : length numbers ≤ i → cells_from i (drop i numbers) recorded ≡ cond (eqb (length recorded / 8) i) (Ok tt) (Err Malformed)
  unfolding cells_from
  cells_end h = rw (drop_all i numbers h) refl

  pub cells_all : length numbers ≤ i → length recorded / 8 ≡ i → cells_from i (drop i numbers) recorded ≡ Ok tt
  cells_all h e = cells_end h ∙ rw (eq-eqb (length recorded / 8) i e) refl

  -- and more were recorded
  pub cells_more : length numbers ≤ i → length recorded / 8 ≢ i → cells_from i (drop i numbers) recorded ≡ Err Malformed
  cells_more h e = cells_end h ∙ rw (ne_eqb (length recorded / 8) i e) refl

pub parting_within : (a b : List ℕ) (i : ℕ) → parting i a b ≤ i + length b
unfolding parting
parting_within [] b i = omega arith
parting_within (x ∷ a) [] i = omega arith
parting_within (x ∷ a) (y ∷ b) i = go (eqb x y) (parting_within a b (suc i))
  where
    go : (t : Bool) → parting (suc i) a b ≤ suc i + length b → cond t (parting (suc i) a b) i ≤ i + suc (length b)
    go true h = omega (arith, h)
    go false h = omega arith

-- what a `?` hands on
pub refused : (x : Difference) (r : Result ℕ Difference) → IsErrAnd r (λ d. d ≡ x) → r ≡ Err x
refused x (Ok n) h = absurd h
refused x (Err d) h = ap Err h

-- ---- the two lists of a frame

-- a list at the front of some bytes, and what stands behind it
abbrev pub Listed : List ℕ → List ℕ → List ℕ → Type 0
Listed bytes l rest = (4 + length l ≤ length bytes) × (length l ≡ four_at bytes 0) × (l ≡ take (length l) (drop 4 bytes)) × (rest ≡ drop (4 + length l) bytes)

module _ (bytes l rest : List ℕ) (h : Listed bytes l rest) where
  list_is : l ≡ list_in bytes
  unfolding list_in
  list_is = h.2 ∙ ap (λ (n : ℕ). take n (drop 4 bytes)) h.1

  rest_is : rest ≡ behind bytes
  unfolding behind
  rest_is = h.3 ∙ ap (λ (n : ℕ). drop (4 + n) bytes) h.1

  long : 4 + length l + length rest ≡ length bytes
  long = omega (arith, h.0, ap length h.3, length-drop (4 + length l) bytes)

module _ (numbers out frame : List ℕ) where
  -- without the first
  pub compare_cut : length frame < 4 + four_at frame 0 → compare numbers out frame ≡ Err Malformed
  unfolding compare
  compare_cut h = rw (lt-ltb (length frame) (4 + four_at frame 0) h) refl

  compare_uneven : (rest : List ℕ) → rest ≡ behind frame → length rest ≢ 4 + four_at rest 0 → compare numbers out frame ≡ Err Malformed
  unfolding compare
  compare_uneven rest p h = rw (← p, ne_eqb (length rest) (4 + four_at rest 0) h) (go (ltb (length frame) (4 + four_at frame 0)))
    where
      go : (t : Bool) → cond {A = Result ℕ Difference} t (Err Malformed) (Err Malformed) ≡ Err Malformed
      go true = refl
      go false = refl

  module _ (answer rest : List ℕ) (h : Listed frame answer rest) where
    -- without the second
    pub compare_short : length rest < 4 + four_at rest 0 → compare numbers out frame ≡ Err Malformed
    compare_short l = compare_uneven rest (rest_is frame answer rest h) (λ e. omega (arith, l, e))

    module _ (list left : List ℕ) (k : Listed rest list left) where
      -- with more behind it
      pub compare_more : false ≡ eqb (length left) 0 → compare numbers out frame ≡ Err Malformed
      compare_more l = compare_uneven rest (rest_is frame answer rest h) never
        where
          never : length rest ≢ 4 + four_at rest 0
          never e =
              let none : length left ≡ 0 = omega (arith, long rest list left k, k.1, e) in
              true≢false (sym (rw none at l))

      pub compare_both : true ≡ eqb (length left) 0 → compare numbers out frame ≡ first (compare_numbers numbers answer) (compare_list out list) (length answer + length out)
      unfolding compare
      compare_both l =
          let none : length left ≡ 0 = eqb-true (length left) 0 (sym l) in
          let whole : length rest ≡ 4 + four_at rest 0 = omega (arith, long rest list left k, k.1, none) in
          let room : 4 + four_at frame 0 ≤ length frame = omega (arith, h.0, h.1) in
          rw (← rest_is frame answer rest h, le-ltb (length frame) (4 + four_at frame 0) room, eq-eqb (length rest) (4 + four_at rest 0) whole, ← list_is frame answer rest h, ← list_is rest list left k, ← h.1) refl
