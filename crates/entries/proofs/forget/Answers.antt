use mathlib.Core.Path.{ap, ◌∙◌}
use Rattle.memory.specs.Cells.{rows_in, no_row}
use Rattle.memory.proofs.RowLaws.{row_long}
use Rattle.table.specs.Table.{table_in}
use lib.ListN.{get_or, set}
use Rattle.table.proofs.RowLaws.{table_at, table_put, rows_put_more}
use Rattle.entries.proofs.EntryLaws.{readings_forgotten}
use Rattle.entries.proofs.forget.Goals as goal

pub returns : goal.returns
returns c =
    let a = c.args in
    let t = a.t.now in
    let w = get_or (rows_in t) a.k no_row in
    let p1 = c.put_row_cell in
    let p2 = c.put_row_cell-2 in
    let p3 = c.put_row_cell-3 in
    let p4 = c.put_row_cell-4 in
    let w1 = set w 4 0 in
    let w2 = set w1 6 0 in
    let w3 = set w2 16 0 in
    let r2 = rows_put_more t p1.new.s p2.new.s w1 a.k 6 0 p1.ensures p2.ensures in
    let r3 = rows_put_more t p2.new.s p3.new.s w2 a.k 16 0 r2 p3.ensures in
    table_put t p4.new.s (set w3 24 0) a.k (rows_put_more t p3.new.s p4.new.s w3 a.k 24 0 r3 p4.ensures)
    ∙ ap (set (table_in t) a.k) (readings_forgotten w (row_long t a.k) ∙ rw (← (table_at t a.k)))
