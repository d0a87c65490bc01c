-- `heads::options::is_cycle` meets its contract.
use lib.Ieee.{of_bits, of_int, round}
use Rattle.heads.proofs.options.is_cycle.Goals as goal

pub returns-then-x : goal.returns-then-x
unfolding of_bits of_int round
returns-then-x c = rw c.if-x.true

pub returns-then-x-2 : goal.returns-then-x-2
unfolding of_bits of_int round
returns-then-x-2 c = rw (c.if-x.false, c.if-x-2.true)

pub returns-else-x-2 : goal.returns-else-x-2
unfolding of_bits of_int round
returns-else-x-2 c = rw (c.if-x.false, c.if-x-2.false)
