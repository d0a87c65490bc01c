-- `round_ties_even` by the five arms of the code: above 0 and below 0, each short of 2 ^ 52 and from there on; and a zero or a NaN.
-- And a bound on it: what is at most 2 ^ 27 is rounded to at most 2 ^ 27.
use Rattle.std.proofs.Common.{◌≡◌, ℕ, zero, suc, ◌+◌, ◌*◌, ◌^◌, ◌<◌, ◌≤◌, Bool, true, false, not, T, ltb, ℤ, pos, sym, refl, ap, ◌∙◌, le_trans, le_of_eq, lt_of_le_of_lt, zero-lt-suc, mul-pos, zero-mul, mul-one, arith, lit<, lit≤, le→leb, ltb→lt, nltb→le, pow_pos}
use mathlib.Core.Bool.{false≢true}
use lib.Ieee.{Float, nan, inf, fin, binary64, up, down, round, neg, add, sub, lt, le, fits, of_int, to_unsigned, in_float}
use lib.Ieee.Back.{unsigned_back}
use lib.Ieee.Fits.{up_pos, down_pos}
use lib.Ieee.Nearest.{closest, closest_same, closest_mono}
use lib.Ieee.Scale.{round_same}
use Rattle.ieee.specs.Round.{float, round_ties_even}
use Rattle.ieee.proofs.Order.{le→}
use Rattle.ieee.proofs.Rounded.{Signed, round_signed, round_neg, round_own}
use Rattle.ieee.proofs.Nudge.{c52, small, large}

-- -2 ^ 52
abbrev pub n52 : Float
n52 = fin true 1 (pos 52)

below : (v d : ℕ) → T (ltb (v * 1) (2 ^ 52 * d)) → v < 2 ^ 52 * d
below v d t = omega (arith, ltb→lt (v * 1) (2 ^ 52 * d) t)

above : (v d : ℕ) → T (not (ltb (v * 1) (2 ^ 52 * d))) → 2 ^ 52 * d ≤ v
above v d t = omega (arith, nltb→le (v * 1) (2 ^ 52 * d) t)

pub nothing_below_zero : (a b : ℕ) → b ≡ 0 → T (ltb a b) → ⊥
nothing_below_zero a b z t = omega (arith, ltb→lt a b t)

pub up_small : (x : Float) → T (lt (float 0) x) → T (lt x c52) → sub binary64 (add binary64 x c52) c52 ≡ round_ties_even x
unfolding lt of_int round_ties_even
up_small nan p q = absurd q
up_small (inf true) p q = absurd p
up_small (inf false) p q = absurd q
up_small (fin true m e) p q = absurd p
up_small (fin false m e) p q = small m e (below (m * up e) (down e) q)

pub up_large : (x : Float) → T (fits binary64 x) → T (lt (float 0) x) → T (not (lt x c52)) → x ≡ round_ties_even x
unfolding lt of_int round_ties_even
up_large nan t p q = refl
up_large (inf s) t p q = refl
up_large (fin true m e) t p q = absurd p
up_large (fin false m e) t p q = sym (large false m e t (above (m * up e) (down e) q))

pub down_small : (x : Float) → T (lt x (float 0)) → T (lt n52 x) → neg (sub binary64 (add binary64 (neg x) c52) c52) ≡ round_ties_even x
unfolding lt of_int round_ties_even neg
down_small nan p q = absurd q
down_small (inf true) p q = absurd q
down_small (inf false) p q = absurd p
down_small (fin false m e) p q = absurd (nothing_below_zero (m * up e * 1) (0 * 1 * down e) (zero-mul (down e)) p)
down_small (fin true m e) p q =
    ap neg (small m e (below (m * up e) (down e) q))
    ∙ round_neg binary64 (closest (m * up e) (down e)) 1

pub down_large : (x : Float) → T (fits binary64 x) → T (lt x (float 0)) → T (not (lt n52 x)) → x ≡ round_ties_even x
unfolding lt of_int round_ties_even
down_large nan t p q = refl
down_large (inf s) t p q = refl
down_large (fin false m e) t p q = absurd (nothing_below_zero (m * up e * 1) (0 * 1 * down e) (zero-mul (down e)) p)
down_large (fin true m e) t p q = sym (large true m e t (above (m * up e) (down e) q))

zero_stays : (s : Bool) (e : ℤ) → T (fits binary64 (fin s 0 e)) → fin s 0 e ≡ round binary64 s (closest (0 * up e) (down e)) 1
zero_stays s e t =
    let z : 0 * up e * 1 ≡ 0 * down e = mul-one (0 * up e) ∙ zero-mul (up e) ∙ sym (zero-mul (down e)) in
    sym
    (ap (λ (n : ℕ). round binary64 s n 1) (closest_same (0 * up e) (down e) 0 1 (down_pos e) (pow_pos 0) z)
    ∙ round_same binary64 s 0 1 (0 * up e) (down e) (pow_pos 0) (down_pos e) (sym z)
    ∙ round_own binary64 s 0 e t)

not_nothing : (a b : ℕ) → a ≡ 0 → 0 < b → T (not (ltb a b)) → ⊥
not_nothing a b z p t = omega (arith, nltb→le a b t)

pub zero_or_nan : (x : Float) → T (fits binary64 x) → T (not (lt (float 0) x)) → T (not (lt x (float 0))) → x ≡ round_ties_even x
unfolding lt of_int round_ties_even
zero_or_nan nan t p q = refl
zero_or_nan (inf s) t p q = refl
zero_or_nan (fin s zero e) t p q = zero_stays s e t
zero_or_nan (fin false (suc m) e) t p q = absurd (not_nothing (0 * 1 * down e) (suc m * up e * 1) (zero-mul (down e)) (mul-pos (mul-pos (zero-lt-suc m) (up_pos e)) (pow_pos 0)) p)
zero_or_nan (fin true (suc m) e) t p q = absurd (not_nothing 0 (suc m * up e * 1 + 0 * 1 * down e) refl (omega (arith, mul-pos (zero-lt-suc m) (up_pos e))) q)

-- ---- read off as a whole number
whole_back : (n : ℕ) → n ≤ 2 ^ 27 → to_unsigned 64 (round binary64 false n 1) ≡ n
unfolding in_float of_int
whole_back n h = (unsigned_back binary64 64 n (le→leb n (2 ^ 53) (le_trans h (lit≤ tt))) (lt_of_le_of_lt h (lit< tt))).1

to_none : (x : Float) → Signed x true → to_unsigned 64 x ≡ 0
unfolding to_unsigned
to_none nan h = refl
to_none (inf true) h = refl
to_none (inf false) h = absurd (false≢true h)
to_none (fin true m e) h = refl
to_none (fin false m e) h = absurd (false≢true h)

-- what is at most 2 ^ 27, rounded and cast, is at most 2 ^ 27
pub cast_bound : (y : Float) → T (le y (fin false 1 (pos 27))) → to_unsigned 64 (round_ties_even y) ≤ 2 ^ 27
unfolding round_ties_even
cast_bound nan h = unfold to_unsigned in lit≤ tt
cast_bound (inf true) h = unfold to_unsigned in lit≤ tt
cast_bound (inf false) h = absurd (le→ (inf false) (fin false 1 (pos 27)) h)
cast_bound (fin true m e) h = le_trans (le_of_eq (to_none (round binary64 true (closest (m * up e) (down e)) 1) (round_signed binary64 true (closest (m * up e) (down e)) 1))) (lit≤ tt)
cast_bound (fin false m e) h =
    let k : closest (m * up e) (down e) ≤ 2 ^ 27 = closest_mono (m * up e) (down e) (2 ^ 27) 1 (down_pos e) (pow_pos 0) (le→ (fin false m e) (fin false 1 (pos 27)) h) in
    le_trans (le_of_eq (whole_back (closest (m * up e) (down e)) k)) k
