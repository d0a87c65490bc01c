use mathlib.Core.Path.{◌≡◌}
use lib.ListN.{length}
use Rattle.tags.specs.Lists.{list_in}
use Rattle.table.specs.Table.{table_in}
use Rattle.panel.specs.Panel.{panel_of}
use lib.Seq.{paste}
use Rattle.panel.proofs.write.write_panel.Given as goal

abbrev pub invariant-loop-p : goal.invariant-loop-p
invariant-loop-p l =
    (length l.out ≡ length l.initial.out) × (l.out ≡ paste l.initial.out 0 (panel_of (table_in l.t) (list_in l.order)) l.p)
