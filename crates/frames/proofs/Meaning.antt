-- What the comparisons say: a list that parts from another only at its own end is the other's front; and one with no other byte
-- is that byte throughout. So an answer that is found as recorded is the recorded one.
use mathlib.Core.Path.{◌≡◌, refl, sym, ◌∙◌, ap}
use mathlib.Core.Bool.{Bool, true, false, cond}
use mathlib.Core.List.{List, [], ◌∷◌}
use Prim.Native.Nat.{ℕ, zero, suc, ◌+◌, ◌*◌, ◌/◌, ◌≤◌, ◌<◌}
use native.Mathlib.Nat.{add-zero}
use native.Mathlib.Omega.{arith}
use borrow.Author.Tests.{eqb-true, ltb-false}
use lib.Dec.{eqb, ltb}
use lib.ListN.{length, get_or, take, drop, replicate}
use Rattle.std.specs.Prelude.{⊤, Result, Ok, Err}
use Rattle.frames.specs.Numbers.{eight_at}
use Rattle.frames.specs.Compare.{parting, unlike}
use Rattle.frames.specs.Answer.{before, cells_from, compare_list}
use Rattle.frames.specs.declared.answer.Difference.{Difference}

pub parting_front : (a b : List ℕ) (i : ℕ) → i + length a ≤ parting i a b → take (length a) b ≡ a
unfolding parting
parting_front [] b i h = refl
parting_front (x ∷ a) [] i h = absurd (omega (arith, h))
parting_front (x ∷ a) (y ∷ b) i h = go (eqb x y) refl (parting_front a b (suc i)) h
  where
    go : (t : Bool) → eqb x y ≡ t → (suc i + length a ≤ parting (suc i) a b → take (length a) b ≡ a) → i + suc (length a) ≤ cond t (parting (suc i) a b) i → y ∷ take (length a) b ≡ x ∷ a
    go true e again g = ap (λ (z : ℕ). z ∷ take (length a) b) (sym (eqb-true x y e)) ∙ ap (λ (l : List ℕ). x ∷ l) (again (omega (arith, g)))
    go false e again g = absurd (omega (arith, g))

pub unlike_none : (s : List ℕ) (b i : ℕ) → i + length s ≤ unlike i s b → s ≡ replicate (length s) b
unfolding unlike
unlike_none [] b i h = refl
unlike_none (x ∷ s) b i h = go (eqb x b) refl (unlike_none s b (suc i)) h
  where
    go : (t : Bool) → eqb x b ≡ t → (suc i + length s ≤ unlike (suc i) s b → s ≡ replicate (length s) b) → i + suc (length s) ≤ cond t (unlike (suc i) s b) i → x ∷ s ≡ b ∷ replicate (length s) b
    go true e again g = ap (λ (z : ℕ). z ∷ s) (eqb-true x b e) ∙ ap (λ (l : List ℕ). b ∷ l) (again (omega (arith, g)))
    go false e again g = absurd (omega (arith, g))

-- ---- an answer without a difference

clear : (t : Bool) (d : Difference) (r : Result ⊤ Difference) → cond t (Err d) r ≡ Ok tt → (t ≡ false) × (r ≡ Ok tt)
clear true d r e = absurd cc
clear false d r e = (refl, e)

same : (t : Bool) (d : Difference) (r : Result ⊤ Difference) → cond t r (Err d) ≡ Ok tt → (t ≡ true) × (r ≡ Ok tt)
same true d r e = (refl, e)
same false d r e = absurd cc

-- the recorded bytes stand at the front of the list, and behind them it is as before its call
pub list_same : (out recorded : List ℕ) → compare_list out recorded ≡ Ok tt
    → (take (length recorded) out ≡ recorded) × (drop (length recorded) out ≡ replicate (length (drop (length recorded) out)) before)
list_same out recorded e =
    let behind = drop (length recorded) out in
    let front = clear (ltb (parting 0 recorded out) (length recorded)) _ _ e in
    let rest = clear (ltb (unlike 0 behind before) (length behind)) _ _ front.1 in
    (parting_front recorded out 0 (omega (arith, ltb-false _ _ front.0)), unlike_none behind before 0 (omega (arith, ltb-false _ _ rest.0)))

-- each number is the recorded one
pub cells_same : (numbers recorded : List ℕ) (i k : ℕ) → cells_from i numbers recorded ≡ Ok tt → k < length numbers → eight_at recorded (8 * (i + k)) ≡ get_or numbers k 0
unfolding cells_from
cells_same [] recorded i k e h = absurd (omega arith)
cells_same (n ∷ numbers) recorded i zero e h =
    let whole = same (ltb i (length recorded / 8)) _ _ e in
    let here = same (eqb n (eight_at recorded (8 * i))) _ _ whole.1 in
    ap (λ (j : ℕ). eight_at recorded (8 * j)) (add-zero i) ∙ sym (eqb-true _ _ here.0)
cells_same (n ∷ numbers) recorded i (suc k) e h =
    let whole = same (ltb i (length recorded / 8)) _ _ e in
    let later = same (eqb n (eight_at recorded (8 * i))) _ _ whole.1 in
    let place : i + suc k ≡ suc i + k = omega arith in
    ap (λ (j : ℕ). eight_at recorded (8 * j)) place ∙ cells_same numbers recorded (suc i) k later.1 (omega arith)

-- and as many are recorded as there are
pub cells_many : (numbers recorded : List ℕ) (i : ℕ) → cells_from i numbers recorded ≡ Ok tt → length recorded / 8 ≡ i + length numbers
unfolding cells_from
cells_many [] recorded i e =
    let end = same (eqb (length recorded / 8) i) _ _ e in
    eqb-true _ _ end.0 ∙ sym (add-zero i)
cells_many (n ∷ numbers) recorded i e =
    let whole = same (ltb i (length recorded / 8)) _ _ e in
    let later = same (eqb n (eight_at recorded (8 * i))) _ _ whole.1 in
    let place : suc i + length numbers ≡ i + suc (length numbers) = omega arith in
    cells_many numbers recorded (suc i) later.1 ∙ place
