-- The seven cells read are those that the change is made of.
use Rattle.std.proofs.Common.{ap, ◌∙◌, ◌%◌}
use Rattle.memory.specs.Cells.{cells_in}
use Rattle.values.specs.declared.entry.Entry.{Entry}
use Rattle.changes.proofs.TakeLaws.{change_read}
use Rattle.changes.proofs.change_in.Goals as goal

pub returns : goal.returns
returns c =
    ap (λ (e : Entry). record { tag = c.cell-7.result % 65536; entry = e }) c.from-entry.ensures
    ∙ change_read (cells_in c.args.list.now) c.args.i _ _ _ _ _ _ _
    c.cell-7.ensures c.cell.ensures c.cell-2.ensures c.cell-3.ensures c.cell-4.ensures c.cell-5.ensures c.cell-6.ensures
