-- Rust's `x as u64` past the ends of what `casts::whole_part` takes: from 2 ^ 64 on, and at -1 and below or a NaN.
use Rattle.std.proofs.Common.{◌≡◌, ℕ, ◌+◌, ◌-◌, ◌*◌, ◌/◌, ◌^◌, ◌<◌, ◌≤◌, min, true, false, not, T, ltb, pos, sym, refl, le-div_iff_mul-le, arith, nltb→le}
use lib.Ieee.{Float, nan, inf, fin, up, down, lt, to_unsigned}
use lib.Ieee.Fits.{down_pos}

full : (q k : ℕ) → k ≤ q → min q (k - 1) ≡ k - 1
full q k h = omega arith

none : (a b : ℕ) → 0 < a + b → T (not (ltb 0 (a + b))) → ⊥
none a b D t = omega (arith, nltb→le 0 (a + b) t)

over : (v d : ℕ) → T (not (ltb (v * 1) (2 ^ 64 * d))) → 2 ^ 64 * d ≤ v
over v d t = omega (arith, nltb→le (v * 1) (2 ^ 64 * d) t)

-- above -1 and not below 2 ^ 64
pub at_top : (x : Float) → T (lt (fin true 1 (pos 0)) x) → T (not (lt x (fin false 1 (pos 64)))) → 18446744073709551615 ≡ to_unsigned 64 x
unfolding lt to_unsigned
at_top nan p q = absurd p
at_top (inf true) p q = absurd p
at_top (inf false) p q = refl
at_top (fin true m e) p q = absurd (none (m * up e * 1) (1 * 2 ^ 64 * down e) (omega (arith, down_pos e)) q)
at_top (fin false m e) p q = sym (full (m * up e / down e) (2 ^ 64) ((le-div_iff_mul-le (down_pos e)).1 (over (m * up e) (down e) q)))

-- not above -1
pub at_zero : (x : Float) → T (not (lt (fin true 1 (pos 0)) x)) → 0 ≡ to_unsigned 64 x
unfolding lt to_unsigned
at_zero nan p = refl
at_zero (inf true) p = refl
at_zero (inf false) p = absurd p
at_zero (fin true m e) p = refl
at_zero (fin false m e) p = absurd (none (1 * 1 * down e) (m * up e * 1) (omega (arith, down_pos e)) p)
