-- The changes so far are the first i of the list.
use Rattle.std.proofs.Common.{◌≡◌}
use Rattle.memory.specs.Cells.{cells_in}
use Rattle.changes.specs.Changes.{changes_from}
use Rattle.changes.proofs.told.Given as goal

abbrev pub invariant-loop-i : goal.invariant-loop-i
invariant-loop-i l = l.changes.items ≡ changes_from (cells_in l.list) l.i
