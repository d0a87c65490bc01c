use mathlib.Core.Path.{◌≡◌}
use lib.ListN.{length, take}
use Rattle.lent.specs.Lent.{record_put}
use Rattle.lent.proofs.put_record.Given as goal

abbrev pub invariant-loop-j : goal.invariant-loop-j
invariant-loop-j l = (length l.out ≡ length l.initial.out) × (l.out ≡ record_put l.initial.out l.i (take l.j l.cells))
