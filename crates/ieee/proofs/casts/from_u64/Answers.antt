-- `casts::from_u64` meets its contract. std's `num.Nearest` says that of the halves of n, where the lower one is n masked: the mask leaves the remainder.
use mathlib.Core.Path.{sym, ap, ◌∙◌}
use Prim.Native.Nat.{ℕ, ◌/◌, ◌^◌}
use lib.Bits.{and_mask}
use lib.Dec.{lit≤}
use lib.Ieee.{binary64, add, mul, of_int, of_bits}
use lib.IntN.{pos}
use Rattle.std.proofs.num.Nearest.{halves_masked, two_to_32}
use Rattle.ieee.proofs.casts.from_u64.Goals as goal

pub returns : goal.returns
returns c =
    let n = c.args.n in
    ap (λ (low : ℕ). add binary64 (mul binary64 (of_int binary64 (pos (n / 2 ^ 32))) (of_bits binary64 0x41f0_0000_0000_0000)) (of_int binary64 (pos low))) (sym (and_mask n 32))
    ∙ halves_masked binary64 32 n _ two_to_32 (lit≤ tt) (lit≤ tt) c.ranges.n.fits
