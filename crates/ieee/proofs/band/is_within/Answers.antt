-- `band::is_within` meets its contract: by the sign of the difference.
use lib.Ieee.{of_bits, of_int, sub, binary64}
use Rattle.ieee.specs.Band.{within}
use Rattle.ieee.proofs.BandLaws.{below_zero, not_below_zero}
use Rattle.ieee.proofs.band.is_within.Goals as goal

pub returns-then-d : goal.returns-then-d
unfolding of_bits of_int within
returns-then-d c = below_zero (sub binary64 c.args.value c.args.published) c.args.band c.if-d.true

pub returns-else-d : goal.returns-else-d
unfolding of_bits of_int within
returns-else-d c = not_below_zero (sub binary64 c.args.value c.args.published) c.args.band c.if-d.false
