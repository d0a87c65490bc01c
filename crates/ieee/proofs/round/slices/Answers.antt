-- `round::slices` meets its contract.
use Rattle.std.proofs.Common.{◌≡◌, arith}
use lib.Ieee.{of_bits, of_int, to_unsigned, div, binary64}
use Rattle.ieee.specs.Round.{slices_of, round_ties_even}
use Rattle.ieee.proofs.round.slices.Goals as goal

pub returns-then-s-lt1 : goal.returns-then-s-lt1
unfolding of_bits of_int slices_of
returns-then-s-lt1 c =
    let s : c.to_u64-s.result ≡ to_unsigned 64 (round_ties_even (div binary64 c.args.period c.args.cycle)) = cc in
    rw c.if-cycle.true (omega arith)

pub returns-else-s-lt1 : goal.returns-else-s-lt1
unfolding of_bits of_int slices_of
returns-else-s-lt1 c =
    let s : c.to_u64-s.result ≡ to_unsigned 64 (round_ties_even (div binary64 c.args.period c.args.cycle)) = cc in
    rw c.if-cycle.true (omega arith)

pub returns-else-cycle : goal.returns-else-cycle
unfolding of_bits of_int slices_of
returns-else-cycle c = rw c.if-cycle.false
