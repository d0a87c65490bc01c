-- `round::to_u64` meets its contract: past either end by a law of `Cast`, and between them the call is in its range.
use lib.Ieee.{of_bits, neg}
use Rattle.ieee.proofs.Order.{yes, no}
use Rattle.ieee.proofs.Cast.{at_top, at_zero}
use Rattle.ieee.proofs.round.to_u64.Goals as goal

pub whole_part-requires : goal.whole_part-requires
unfolding of_bits neg
whole_part-requires c = record { lower_bound = yes c.if-x.true; upper_bound = yes c.if-x-2.true }

pub returns-else-x-2 : goal.returns-else-x-2
unfolding of_bits neg
returns-else-x-2 c = at_top c.args.x (yes c.if-x.true) (no c.if-x-2.false)

pub returns-else-x : goal.returns-else-x
unfolding of_bits neg
returns-else-x c = at_zero c.args.x (no c.if-x.false)
