-- `casts::whole_part` meets its contract. std's `num.Truncating` says it of the same bits with the digits masked, and with an exponent of 1075 moved down: the mask leaves the remainder, and a move by nothing is the same either way.
use Rattle.std.proofs.Common.{◌≡◌, ℕ, ◌+◌, ◌-◌, ◌*◌, ◌/◌, ◌%◌, ◌^◌, ◌<◌, ◌≤◌, Bool, true, false, not, T, sym, ap, ◌∙◌, inl, inr, le_of_lt, le_of_eq, eq-or-lt_of_le, mul-one, mod-lt, arith}
use native.Mathlib.Nat.{div-one, mod-eq_of_lt}
use lib.Bits.{bit_and, bit_or, and_mask, or_shifted_r}
use lib.Ieee.{Float, binary64, fits, is_nan, le, lt, of_bits, to_bits, to_unsigned}
use lib.Pow.{pow_pos}
use Rattle.std.proofs.lemmas.Float as float
use Rattle.std.proofs.num.Truncating as std
use Rattle.ieee.proofs.Order.{yes, no}
use Rattle.ieee.proofs.casts.whole_part.Goals as goal
use Rattle.ieee.proofs.casts.whole_part.Goals.{Else-x}

denied : (b : Bool) → (T b → ⊥) → T (not b)
denied true f = f tt
denied false f = tt

-- the digits of the pattern b, under the leading one
abbrev digits : ℕ → ℕ
digits b = 2 ^ 52 + b % 2 ^ 52

masked : (b : ℕ) → digits b ≡ bit_or (bit_and b (2 ^ 52 - 1)) (2 ^ 52)
masked b = cc (and_mask b 52, or_shifted_r 1 52 (b % 2 ^ 52) (mod-lt b (pow_pos 52)))

few : (t : ℕ) → t < 2 ^ 52 → 2 ^ 52 + t < 2 ^ 64
few t h = omega arith

-- moved by nothing
unmoved : (q e : ℕ) → 1075 ≡ e → q < 2 ^ 64 → q * 2 ^ (e - 1075) % 2 ^ 64 ≡ q / 2 ^ (1075 - e)
unmoved q e h l =
    let up : e - 1075 ≡ 0 = omega arith in
    let down : 0 ≡ 1075 - e = omega arith in
    ap (λ (k : ℕ). q * 2 ^ k % 2 ^ 64) up ∙ ap (λ (k : ℕ). k % 2 ^ 64) (mul-one q) ∙ mod-eq_of_lt l ∙ sym (div-one q) ∙ ap (λ (k : ℕ). q / 2 ^ k) down

-- ---- of an x that the format holds, at least 1 and below 2 ^ 64
module _ (x : Float) (F : T (fits binary64 x)) (a : T (le std.one x)) (b : T (lt x (std.two_to 64))) where
  abbrev bits : ℕ
  bits = to_bits binary64 x

  moved_down : bits / 2 ^ 52 ≤ 1075 → digits bits / 2 ^ (1075 - bits / 2 ^ 52) ≡ to_unsigned 64 x
  moved_down h = ap (λ (k : ℕ). k / 2 ^ (1075 - bits / 2 ^ 52)) (masked bits) ∙ std.cut_down x F a b h

  moved_up : 1075 ≤ bits / 2 ^ 52 → digits bits * 2 ^ (bits / 2 ^ 52 - 1075) % 2 ^ 64 ≡ to_unsigned 64 x
  moved_up h =
      elim (eq-or-lt_of_le h) [
        | inl e ↦ unmoved (digits bits) (bits / 2 ^ 52) e (few (bits % 2 ^ 52) (mod-lt bits (pow_pos 52))) ∙ moved_down (le_of_eq (sym e))
        | inr l ↦ ap (λ (k : ℕ). k * 2 ^ (bits / 2 ^ 52 - 1075) % 2 ^ 64) (masked bits) ∙ std.cut_up x F a b l
      ]

-- ---- the goals
abbrev x : goal.Else-x → Float
x c = c.args.x

held : (c : goal.Else-x) → T (fits binary64 (x c))
held c = yes c.well_formed.0.1

-- x is at least 1: a number that is not below it
least : (c : goal.Else-x) → T (le std.one (x c))
unfolding of_bits is_nan
least c = float.le_of_not-lt (x c) std.one (float.le_right std.minus_one (x c) (float.le_of_lt std.minus_one (x c) c.requires.lower_bound)) tt (no c.if-x.false)

under : (c : goal.Else-x) → T (lt (x c) (std.two_to 64))
under c = c.requires.upper_bound

pub returns-then-x : goal.returns-then-x
unfolding of_bits
returns-then-x c =
    std.below_one 64 c.args.x (denied (le std.one c.args.x) (λ (h : T (le std.one c.args.x)). float.lt_irrefl c.args.x (float.lt_of_lt_of_le c.args.x std.one c.args.x (yes c.if-x.true) h)))

pub overflow_shr-result : goal.overflow_shr-result
overflow_shr-result c = let e = (goal.at.overflow_shr-result c).Else-x in std.down_by (x e) (held e) (least e) (under e)

pub overflow_shl-result : goal.overflow_shl-result
overflow_shl-result c = let e = (goal.at.overflow_shl-result c).Else-x in std.up_by (x e) (held e) (least e) (under e)

pub returns-then-exponent-lt1075 : goal.returns-then-exponent-lt1075
returns-then-exponent-lt1075 c = let e = (goal.at.returns-then-exponent-lt1075 c).Else-x in moved_down (x e) (held e) (least e) (under e) (le_of_lt c.if-exponent-lt1075.true)

pub returns-else-exponent-lt1075 : goal.returns-else-exponent-lt1075
returns-else-exponent-lt1075 c = let e = (goal.at.returns-else-exponent-lt1075 c).Else-x in moved_up (x e) (held e) (least e) (under e) c.if-exponent-lt1075.false
