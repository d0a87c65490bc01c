-- `round::round_ties_even` meets its contract: each arm by its law of `Even`.
use lib.Ieee.{of_bits, neg, of_int}
use Rattle.ieee.proofs.Order.{yes, no}
use Rattle.ieee.proofs.Even.{up_small, up_large, down_small, down_large, zero_or_nan}
use Rattle.ieee.proofs.round.round_ties_even.Goals as goal

pub returns-then-x-2 : goal.returns-then-x-2
unfolding of_bits of_int
returns-then-x-2 c = up_small c.args.x (yes c.if-x.true) (yes c.if-x-2.true)

pub returns-else-x-2 : goal.returns-else-x-2
unfolding of_bits of_int
returns-else-x-2 c = up_large c.args.x (yes c.well_formed.0.1) (yes c.if-x.true) (no c.if-x-2.false)

pub returns-then-x-4 : goal.returns-then-x-4
unfolding of_bits of_int neg
returns-then-x-4 c = down_small c.args.x (yes c.if-x-3.true) (yes c.if-x-4.true)

pub returns-else-x-4 : goal.returns-else-x-4
unfolding of_bits of_int neg
returns-else-x-4 c = down_large c.args.x (yes c.well_formed.0.1) (yes c.if-x-3.true) (no c.if-x-4.false)

pub returns-else-x-3 : goal.returns-else-x-3
unfolding of_bits of_int
returns-else-x-3 c = zero_or_nan c.args.x (yes c.well_formed.0.1) (no c.if-x.false) (no c.if-x-3.false)
