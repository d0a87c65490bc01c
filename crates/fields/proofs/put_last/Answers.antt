use mathlib.Core.Path.{ap, ◌∙◌}
use lib.ListN.{get_or, set}
use Rattle.memory.specs.Cells.{rows_in, no_row}
use Rattle.memory.proofs.RowLaws.{row_long}
use Rattle.table.specs.Table.{table_in}
use Rattle.table.proofs.RowLaws.{table_at, table_put, rows_put_2}
use Rattle.fields.proofs.FieldLaws.{last_put}
use Rattle.fields.proofs.put_last.Goals as goal

pub returns : goal.returns
returns c =
    let a = c.args in
    let t = a.t.now in
    let w = get_or (rows_in t) a.k no_row in
    let v = c.word_of_float in
    let one = c.put_row_cell in
    let two = c.put_row_cell-2 in
    table_put t two.new.s (set (set w 4 1) 5 v.result) a.k (rows_put_2 t one.new.s two.new.s a.k 4 1 5 v.result one.ensures two.ensures)
    ∙ ap (set (table_in t) a.k) (last_put w (row_long t a.k) v.result ∙ rw (v.ensures.back, ← (table_at t a.k)))
