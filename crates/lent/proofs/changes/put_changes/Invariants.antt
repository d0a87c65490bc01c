use mathlib.Core.Path.{◌≡◌}
use lib.ListN.{length, take}
use Rattle.tags.specs.Lists.{list_in}
use Rattle.table.specs.Table.{table_in}
use Rattle.lent.specs.Lent.{cell_bytes, over_bytes, records}
use Rattle.lent.specs.Changes.{change_cells}
use Rattle.lent.proofs.changes.put_changes.Given as goal

abbrev pub invariant-loop-i : goal.invariant-loop-i
invariant-loop-i l =
    (length l.out ≡ length l.initial.out) × (l.out ≡ over_bytes l.initial.out (cell_bytes (records (change_cells (table_in l.table)) (take l.i (list_in l.list)))))
