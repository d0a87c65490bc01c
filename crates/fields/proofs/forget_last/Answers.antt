use mathlib.Core.Path.{ap, ◌∙◌}
use lib.ListN.{get_or, set}
use Rattle.memory.specs.Cells.{rows_in, no_row}
use Rattle.memory.proofs.RowLaws.{row_long}
use Rattle.table.specs.Table.{table_in}
use Rattle.table.proofs.RowLaws.{table_at, table_put}
use Rattle.fields.proofs.FieldLaws.{last_forgotten}
use Rattle.fields.proofs.forget_last.Goals as goal

pub returns : goal.returns
returns c =
    let a = c.args in
    let t = a.t.now in
    let w = get_or (rows_in t) a.k no_row in
    table_put t c.put_row_cell.new.s (set w 4 0) a.k c.put_row_cell.ensures
    ∙ ap (set (table_in t) a.k) (last_forgotten w (row_long t a.k) ∙ rw (← (table_at t a.k)))
