use lib.Ieee.{of_bits, of_int}
use Rattle.statistics.proofs.period.period_of.Goals as goal

pub returns-in-Some-Some : goal.returns-in-Some-Some
unfolding of_bits of_int
returns-in-Some-Some c = rw (c.in-Some-Some.is-0, c.in-Some-Some.is-1, c.round1.ensures)
