-- `heads::options::is_span` meets its contract.
use lib.Ieee.{of_bits, of_int}
use Rattle.heads.proofs.options.is_span.Goals as goal

pub returns-then-x : goal.returns-then-x
unfolding of_bits of_int
returns-then-x c = rw c.if-x.true

pub returns-else-x : goal.returns-else-x
unfolding of_bits of_int
returns-else-x c = rw c.if-x.false
