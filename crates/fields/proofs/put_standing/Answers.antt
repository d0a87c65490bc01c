use mathlib.Core.Path.{ap, ◌∙◌}
use lib.ListN.{get_or, set}
use Prim.Native.Nat.{◌<◌}
use native.Mathlib.Nat.{mod-eq_of_lt}
use borrow.Author.Rules.{rules}
use Rattle.memory.specs.Cells.{rows_in, no_row}
use Rattle.memory.proofs.RowLaws.{row_long}
use Rattle.table.specs.Table.{table_in}
use Rattle.table.proofs.RowLaws.{table_at, table_put, rows_put_more}
use Rattle.fields.proofs.FieldLaws.{standing_put}
use Rattle.fields.proofs.put_standing.Goals as goal

pub returns : goal.returns
returns c =
    let a = c.args in
    let g = c.from-w in
    let added = c.word_of_flag-new in
    let wants = c.word_of_flag in
    let t = a.t.now in
    let w = get_or (rows_in t) a.k no_row in
    let w1 = set w 0 a.tier in
    let w2 = set w1 1 g.result.on in
    let w3 = set w2 2 g.result.deadline in
    let w4 = set w3 3 g.result.after in
    let w5 = set w4 8 added.result in
    let w6 = set w5 9 wants.result in
    let p1 = c.put_row_cell in
    let p2 = c.put_row_cell-2 in
    let p3 = c.put_row_cell-3 in
    let p4 = c.put_row_cell-4 in
    let p5 = c.put_row_cell-5 in
    let p6 = c.put_row_cell-6 in
    let r2 = rows_put_more t p1.new.s p2.new.s w1 a.k 1 g.result.on p1.ensures p2.ensures in
    let r3 = rows_put_more t p2.new.s p3.new.s w2 a.k 2 g.result.deadline r2 p3.ensures in
    let r4 = rows_put_more t p3.new.s p4.new.s w3 a.k 3 g.result.after r3 p4.ensures in
    let r5 = rows_put_more t p4.new.s p5.new.s w4 a.k 8 added.result r4 p5.ensures in
    let r6 = rows_put_more t p5.new.s p6.new.s w5 a.k 9 wants.result r5 p6.ensures in
    let small : a.tier < 256 = search rules in
    table_put t p6.new.s w6 a.k r6
    ∙ ap (set (table_in t) a.k) (standing_put w (row_long t a.k) a.tier g.result.on g.result.deadline g.result.after added.result wants.result
    ∙ rw (mod-eq_of_lt small, g.ensures, added.ensures, wants.ensures, ← (table_at t a.k)))
