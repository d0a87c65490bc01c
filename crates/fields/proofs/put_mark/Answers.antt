use mathlib.Core.Path.{ap, ◌∙◌}
use lib.ListN.{get_or, set}
use Rattle.memory.specs.Cells.{rows_in, no_row}
use Rattle.memory.proofs.RowLaws.{row_long}
use Rattle.table.specs.Table.{table_in}
use Rattle.table.proofs.RowLaws.{table_at, table_put, rows_put_2}
use Rattle.fields.proofs.FieldLaws.{mark_put}
use Rattle.fields.proofs.put_mark.Goals as goal

pub returns : goal.returns
returns c =
    let a = c.args in
    let t = a.t.now in
    let r = get_or (rows_in t) a.k no_row in
    let w = c.from-w in
    let one = c.put_row_cell in
    let two = c.put_row_cell-2 in
    table_put t two.new.s (set (set r 6 w.result.known) 7 w.result.word) a.k
    (rows_put_2 t one.new.s two.new.s a.k 6 w.result.known 7 w.result.word one.ensures two.ensures)
    ∙ ap (set (table_in t) a.k) (mark_put r (row_long t a.k) w.result.known w.result.word ∙ rw (w.ensures, ← (table_at t a.k)))
