-- A magnitude against a band, by a test of the sign.
use Rattle.std.proofs.Common.{◌≡◌, ℕ, ◌+◌, ◌*◌, true, false, not, T, ltb, ℤ, sym, refl, ap, ◌∙◌, true≢false, zero-add, zero-mul, arith, nltb→le, le-ltb}
use mathlib.Core.Bool.{false≢true}
use lib.Ieee.{Float, nan, inf, fin, up, down, lt, neg, of_int}
use Rattle.ieee.specs.Band.{magnitude}
use Rattle.ieee.specs.Round.{float}
use Rattle.ieee.proofs.Order.{yes, no}
use Rattle.ieee.proofs.Even.{nothing_below_zero}

pub below_zero : (d y : Float) → lt d (float 0) ≡ true → lt (neg d) y ≡ lt (magnitude d) y
unfolding lt of_int neg magnitude
below_zero nan y p = refl
below_zero (inf true) y p = refl
below_zero (inf false) y p = absurd (false≢true p)
below_zero (fin true m e) y p = refl
below_zero (fin false m e) y p = absurd (nothing_below_zero (m * up e * 1) (0 * 1 * down e) (zero-mul (down e)) (yes p))

-- -0 compares as +0
nothing : (a b : ℕ) → T (not (ltb 0 (a * 1 + b))) → a ≡ 0
nothing a b t = omega (arith, nltb→le 0 (a * 1 + b) t)

left : (a b : ℕ) → a ≡ 0 → ltb 0 (a + b) ≡ ltb a b
left a b e = ap (λ (x : ℕ). ltb 0 (x + b)) e ∙ ap (ltb 0) (zero-add b) ∙ ap (λ (x : ℕ). ltb x b) (sym e)

right : (a b : ℕ) → a ≡ 0 → ltb b a ≡ false
right a b e = le-ltb b a (omega arith)

minus_zero : (m : ℕ) (e : ℤ) (y : Float) → m * up e ≡ 0 → lt (fin true m e) y ≡ lt (fin false m e) y
unfolding lt
minus_zero m e nan z = refl
minus_zero m e (inf t) z = refl
minus_zero m e (fin false n d) z = left (m * up e * down d) (n * up d * down e) (ap (λ (a : ℕ). a * down d) z ∙ zero-mul (down d))
minus_zero m e (fin true n d) z = right (m * up e * down d) (n * up d * down e) (ap (λ (a : ℕ). a * down d) z ∙ zero-mul (down d))

pub not_below_zero : (d y : Float) → lt d (float 0) ≡ false → lt d y ≡ lt (magnitude d) y
unfolding lt of_int magnitude
not_below_zero nan y p = refl
not_below_zero (inf true) y p = absurd (true≢false p)
not_below_zero (inf false) y p = refl
not_below_zero (fin true m e) y p = minus_zero m e y (nothing (m * up e) (0 * 1 * down e) (no p))
not_below_zero (fin false m e) y p = refl
