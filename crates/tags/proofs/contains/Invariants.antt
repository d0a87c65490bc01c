use mathlib.Core.Path.{◌≡◌}
use lib.ListN.{drop}
use Rattle.tags.specs.Lists.{list_in, member}
use Rattle.tags.proofs.contains.Given as goal

abbrev pub invariant-loop-i : goal.invariant-loop-i
invariant-loop-i l = member l.k (list_in l.s) ≡ member l.k (drop l.i (list_in l.s))
