-- `casts::from_i64` meets its contract. std's `num.Nearest` says that the float of a negative n's magnitude, negated, is the float of n.
use Rattle.std.proofs.Common.{◌≡◌, ℤ, pos, negsuc, to_z, of_z, true, false, ap, ◌∙◌, refl, w64, ltb→lt, lit≤, arith}
use lib.Ieee.{binary64, neg}
use lib.Signed.{lt_z, le_z}
use Rattle.std.proofs.num.Nearest.{turn}
use Rattle.ieee.proofs.Order.{yes}
use Rattle.ieee.proofs.casts.from_i64.Goals as goal

below_zero : (z : ℤ) → lt_z z (pos 0) ≡ true → le_z (pos 0) z ≡ false
below_zero (pos a) h = absurd (omega (arith, ltb→lt a 0 (yes h)))
below_zero (negsuc a) h = refl

pub returns-then-n-lt0 : goal.returns-then-n-lt0
returns-then-n-lt0 c = ap neg c.from_u64.ensures ∙ (turn w64 c.args.n (lit≤ tt) c.ranges.n (below_zero (to_z w64 (of_z w64 c.args.n)) c.if-n-lt0.true)).4 binary64
