use Rattle.tags.specs.Lists.{list_in}
use Rattle.removal.proofs.RemoveLaws.{Placing}
use Rattle.removal.proofs.places_of.Given as goal

abbrev pub invariant-loop-i : goal.invariant-loop-i
invariant-loop-i l = Placing l.k (list_in l.s) l.i l.hits l.sum
