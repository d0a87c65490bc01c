-- The definitions give every starred case the answer that document 01 has for it.
use mathlib.Core.Path.{◌≡◌, refl}
use mathlib.Core.Bool.{true}
use lib.Ieee.{round, of_int, div, sub, neg, lt, eq, to_unsigned}
use Rattle.ieee.specs.Round.{round_ties_even, slices_of}
use Rattle.ieee.specs.Band.{magnitude, within}
use Rattle.lists.specs.Keep.{up_to}
use Rattle.lists.specs.Slices.{slice}
use Rattle.edges.specs.Cases.{have_sizes, right, all_right, starred}

pub all-starred : all_right starred ≡ true
unfolding round of_int div sub neg lt eq to_unsigned round_ties_even slices_of magnitude within slice up_to have_sizes right all_right starred
all-starred = refl
