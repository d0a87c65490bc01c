-- `times::seconds` meets its contract.
use Rattle.std.proofs.Common.{ap}
use lib.Ieee.{Float, binary64, div, of_bits, of_int}
use Rattle.ieee.specs.Round.{float}
use Rattle.ieee.proofs.times.seconds.Goals as goal

pub returns : goal.returns
unfolding of_bits of_int
returns c = ap (λ (x : Float). div binary64 x (float 1000)) c.from_u64.ensures
