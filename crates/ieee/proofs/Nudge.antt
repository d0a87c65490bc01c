-- x + 2 ^ 52 - 2 ^ 52 is, for 0 ≤ x < 2 ^ 52, the whole number nearest to x, a tie to the even one. And from 2 ^ 52 on a float is whole.
use Rattle.std.proofs.Common.{◌≡◌, ℕ, zero, suc, ◌+◌, ◌-◌, ◌*◌, ◌/◌, ◌%◌, ◌^◌, ◌<◌, ◌≤◌, Bool, true, false, cond, T, ltb, ℤ, pos, negsuc, sym, refl, ap, ◌∙◌, subst, true≢false, le_trans, le_of_eq, lt_of_lt_of_le, lt_of_le_of_lt, mul-le-mul_right, mul_assoc, mul_comm, div-lt_iff_lt-mul, add-mul, mul-lt-mul_of_pos_right, mul-pos, lt_of_not-le, le-div_iff_mul-le, zero-mul, mul-one, mul_right_comm, not-le_of_lt, div-one, mul_left_comm, arith, lit<, ltb→lt, pow_pos, pow_mono, pow-add}
use Prim.Native.Nat.{compare, Ordering}
use native.Mathlib.Nat.{mod-one, eq_of_mul-eq-mul_right, two-pow-succ, add-mul-div_right, add-mul-mod_self_right}
use lib.Ieee.{Float, nan, inf, fin, binary64, up, down, size, nearest, round, sum, add, sub, fits}
use lib.Ieee.Digits.{size-lt, size-le}
use lib.Ieee.Exact.{HasValue}
use lib.Ieee.Fits.{nearest-le, down_pos}
use lib.Ieee.Nearest.{closest, closest_same}
use lib.Ieee.Order.{drop, kept}
use lib.Ieee.Scale.{grid, overflow, round_val, round_same}
use Rattle.ieee.proofs.Rounded.{held, round_own}

-- ---- an even number added before rounding, or after
even_tie : (q k : ℕ) → k % 2 ≡ 0 → q + k + (q + k) % 2 ≡ q + q % 2 + k
even_tie q k h = omega arith

shift : (q k : ℕ) (o : Ordering) → k % 2 ≡ 0 → nearest (q + k) o ≡ nearest q o + k
shift q k Ordering.lt h = refl
shift q k Ordering.eq h = even_tie q k h
shift q k Ordering.gt h = omega arith

closest_shift : (a k c : ℕ) → 0 < c → k % 2 ≡ 0 → closest (a + k * c) c ≡ closest a c + k
closest_shift a k c C h =
    ap (λ (q : ℕ). nearest q (compare ((a + k * c) % c * 2) c)) (add-mul-div_right a k C)
    ∙ ap (λ (r : ℕ). nearest (a / c + k) (compare (r * 2) c)) (add-mul-mod_self_right a k c)
    ∙ shift (a / c) k (compare (a % c * 2) c) h

-- ---- how many digits `round` drops of a number with h + 1 digits before the point
size_gt : (n j : ℕ) → 2 ^ j ≤ n → j < size n
size_gt n j h = lt_of_not-le (λ (g : size n ≤ j). not-le_of_lt (lt_of_lt_of_le (size-lt n) (pow_mono g)) h)

less : (z h l : ℕ) → z ≤ suc h + l → h + l < z → z - suc h ≡ l
less z h l a b = omega arith

sum_lt : (a b c : ℕ) → a < b → c ≡ b + b → a + b < c
sum_lt a b c h e = omega arith

module _ (h l a c : ℕ) (C : 0 < c) (small : a < 2 ^ h * c) where
  drops : drop (suc h) ((a + 2 ^ h * c) * 2 ^ l) c ≡ l
  drops =
      let n = (a + 2 ^ h * c) * 2 ^ l in
      let lo : 2 ^ (h + l) * c ≤ n = le_trans (le_of_eq (ap (λ (x : ℕ). x * c) (pow-add 2 h l) ∙ mul_right_comm (2 ^ h) (2 ^ l) c)) (mul-le-mul_right (2 ^ l) (omega arith)) in
      let top : a + 2 ^ h * c < 2 ^ suc h * c = sum_lt a (2 ^ h * c) (2 ^ suc h * c) small (ap (λ (x : ℕ). x * c) (two-pow-succ h) ∙ add-mul (2 ^ h) (2 ^ h) c) in
      let hi : n < 2 ^ (suc h + l) * c = lt_of_lt_of_le (mul-lt-mul_of_pos_right top (pow_pos l)) (le_of_eq (mul_right_comm (2 ^ suc h) c (2 ^ l) ∙ ap (λ (x : ℕ). x * c) (sym (pow-add 2 (suc h) l)))) in
      less (size (n / c)) h l (size-le (n / c) (suc h + l) ((div-lt_iff_lt-mul C).1 hi)) (size_gt (n / c) (h + l) ((le-div_iff_mul-le C).1 lo))

  keeps : 2 ^ h % 2 ≡ 0 → kept (suc h) ((a + 2 ^ h * c) * 2 ^ l) c ≡ closest a c + 2 ^ h
  keeps even =
      let s = a + 2 ^ h * c in
      ap (λ (k : ℕ). closest (s * 2 ^ l) (c * 2 ^ k)) drops
      ∙ closest_same (s * 2 ^ l) (c * 2 ^ l) s c (mul-pos C (pow_pos l)) C (simp (mul_assoc, mul_comm, mul_left_comm))
      ∙ closest_shift a (2 ^ h) c C even

-- ---- at binary64, with 53 digits: x + 2 ^ 52
-- a nearest whole number is at most one above what was below 2 ^ 52
closest_le : (a c k : ℕ) → 0 < c → a < k * c → closest a c ≤ k
closest_le a c k C h = le_trans (nearest-le (a / c) (compare (a % c * 2) c)) ((div-lt_iff_lt-mul C).1 h)

from_units : (x : Float) (g w l : ℕ) → 0 < l → g ≡ w * l → HasValue x false g l → HasValue x false w 1
from_units nan g w l L e v = v
from_units (inf s) g w l L e v = v
from_units (fin s m d) g w l L e v = (v.0, mul-one (m * up d) ∙ eq_of_mul-eq-mul_right l L (m * up d) (w * down d) (v.1 ∙ ap (λ (z : ℕ). z * down d) e ∙ mul_right_comm w l (down d)))

more : (w k : ℕ) → w ≤ k → w + k ≤ k + k
more w k h = omega arith

under_top : (w : ℕ) → w ≤ 2 ^ 52 → w + 2 ^ 52 < 2 ^ 1024
under_top w h = lt_of_le_of_lt (more w (2 ^ 52) h) (lit< tt)

up_52 : (a c : ℕ) → 0 < c → a < 2 ^ 52 * c → HasValue (round binary64 false (a + 2 ^ 52 * c) c) false (closest a c + 2 ^ 52) 1
up_52 a c C h =
    let s = a + 2 ^ 52 * c in
    let w = closest a c + 2 ^ 52 in
    let is : grid binary64 s c ≡ w * 2 ^ 1074 = ap (λ (k : ℕ). kept 53 (s * 2 ^ 1074) c * 2 ^ k) (drops 52 1074 a c C h) ∙ ap (λ (z : ℕ). z * 2 ^ 1074) (keeps 52 1074 a c C h refl) in
    let fine : grid binary64 s c < overflow binary64 =
    subst (λ (z : ℕ). z < overflow binary64) (sym is)
    (lt_of_lt_of_le (mul-lt-mul_of_pos_right (under_top (closest a c) (closest_le a c (2 ^ 52) C h)) (pow_pos 1074)) (le_of_eq refl)) in
    from_units (round binary64 false s c) (grid binary64 s c) w (2 ^ 1074) (pow_pos 1074) is (round_val binary64 s c fine)

-- ---- less 2 ^ 52 again
-- 2 ^ 52
abbrev pub c52 : Float
c52 = fin false 1 (pos 52)

pick : (a b c : ℕ) → b ≤ a → sum binary64 false a true b c ≡ round binary64 false (a - b) c
unfolding sum
pick a b c h = go (ltb a b) (ltb→lt a b)
  where
    go : (t : Bool) → (T t → a < b) → cond t (round binary64 true (b - a) c) (round binary64 false (a - b) c) ≡ round binary64 false (a - b) c
    go true k = absurd (not-le_of_lt (k tt) h)
    go false k = refl

at_value : (v n k d : ℕ) → v * 1 ≡ (n + k) * d → v * 1 ≡ n * d + k * d
at_value v n k d e = e ∙ add-mul n k d

left : (v n b : ℕ) → v ≡ n + b → v - b ≡ n
left v n b e = omega arith

over : (v n b : ℕ) → v ≡ n + b → b ≤ v
over v n b e = omega arith

opened : (m : ℕ) (e : ℤ) → sub binary64 (fin false m e) c52 ≡ sum binary64 false (m * up e * 1) true (1 * 2 ^ 52 * down e) (down e * 1)
unfolding sub
opened m e = refl

down_52 : (y : Float) (n : ℕ) → HasValue y false (n + 2 ^ 52) 1 → sub binary64 y c52 ≡ round binary64 false n 1
down_52 nan n v = absurd v
down_52 (inf s) n v = absurd v
down_52 (fin true m e) n v = absurd (true≢false v.0)
down_52 (fin false m e) n v =
    let a = m * up e * 1 in
    let b = 1 * 2 ^ 52 * down e in
    let is : a ≡ n * down e + b = at_value (m * up e) n (2 ^ 52) (down e) v.1 in
    opened m e
    ∙ pick a b (down e * 1) (over a (n * down e) b is)
    ∙ ap (λ (z : ℕ). round binary64 false z (down e * 1)) (left a (n * down e) b is)
    ∙ round_same binary64 false (n * down e) (down e * 1) n 1 (mul-pos (down_pos e) (pow_pos 0)) (pow_pos 0) (mul_assoc n (down e) 1)

-- ---- both
add_52 : (m : ℕ) (e : ℤ) → add binary64 (fin false m e) c52 ≡ round binary64 false (m * up e + 2 ^ 52 * down e) (down e)
unfolding add
add_52 m e = simp mul-one

pub small : (m : ℕ) (e : ℤ) → m * up e < 2 ^ 52 * down e → sub binary64 (add binary64 (fin false m e) c52) c52 ≡ round binary64 false (closest (m * up e) (down e)) 1
small m e h =
    ap (λ (y : Float). sub binary64 y c52) (add_52 m e)
    ∙ down_52 (round binary64 false (m * up e + 2 ^ 52 * down e) (down e)) (closest (m * up e) (down e)) (up_52 (m * up e) (down e) (down_pos e) h)

-- ---- from 2 ^ 52 on a float is whole
closest_whole : (n : ℕ) → closest n 1 ≡ n
closest_whole n = ap (λ (r : ℕ). nearest (n / 1) (compare (r * 2) 1)) (mod-one n) ∙ div-one n

no_fraction : (m k : ℕ) → m < 2 ^ 53 → 2 ^ 52 * 2 ^ suc k ≤ m * 1 → ⊥
no_fraction m k h l =
    not-le_of_lt h
    (le_trans (pow_mono {i = 53} {j = 52 + suc k} (omega arith)) (le_trans (le_of_eq (pow-add 2 52 (suc k))) (le_trans l (le_of_eq (mul-one m)))))

pub large : (s : Bool) (m : ℕ) (e : ℤ) → T (fits binary64 (fin s m e)) → 2 ^ 52 * down e ≤ m * up e → round binary64 s (closest (m * up e) (down e)) 1 ≡ fin s m e
large s zero e t h = absurd (not-le_of_lt (mul-pos (pow_pos 52) (down_pos e)) (le_trans h (le_of_eq (zero-mul (up e)))))
large s (suc m) (pos k) t h = ap (λ (z : ℕ). round binary64 s z 1) (closest_whole (suc m * 2 ^ k)) ∙ round_own binary64 s (suc m) (pos k) t
large s (suc m) (negsuc k) t h = absurd (no_fraction (suc m) k (held binary64 s m (negsuc k) t).digits h)
