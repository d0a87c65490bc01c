use mathlib.Core.Path.{◌≡◌}
use lib.ListN.{length, drop}
use Rattle.tags.specs.Lists.{list_in}
use Rattle.table.specs.Table.{table_in}
use Rattle.rounds.specs.Due.{marked}
use Rattle.rounds.proofs.due.mark_due.Given as goal

abbrev pub invariant-loop-i : goal.invariant-loop-i
invariant-loop-i l = (length l.t ≡ length l.initial.t) × (marked (table_in l.initial.t) l.clock (list_in l.list) ≡ marked (table_in l.t) l.clock (drop l.i (list_in l.list)))
