-- `round::round1` meets its contract.
use lib.Ieee.{of_bits, of_int}
use Rattle.ieee.specs.Round.{round1_of}
use Rattle.ieee.proofs.round.round1.Goals as goal

pub returns : goal.returns
unfolding of_bits of_int round1_of
returns c = cc
