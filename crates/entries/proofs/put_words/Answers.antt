-- `entries::put_words` meets its contract.
use lib.ListN.{get_or, set}
use Prim.Native.Nat.{◌+◌}
use Rattle.memory.specs.Cells.{rows_in, no_row}
use Rattle.table.proofs.RowLaws.{rows_put_more}
use Rattle.entries.proofs.put_words.Goals as goal

pub returns : goal.returns
returns c =
    let a = c.args in
    let t = a.t.now in
    let w0 = get_or (rows_in t) a.k no_row in
    let p1 = c.put_row_cell in
    let p2 = c.put_row_cell-2 in
    let p3 = c.put_row_cell-3 in
    let p4 = c.put_row_cell-4 in
    let p5 = c.put_row_cell-5 in
    let p6 = c.put_row_cell-6 in
    let w1 = set w0 a.first a.w.held in
    let w2 = set w1 (a.first + 1) a.w.kind in
    let w3 = set w2 (a.first + 2) a.w.word in
    let w4 = set w3 (a.first + 3) a.w.t in
    let w5 = set w4 (a.first + 4) a.w.error in
    let e2 = rows_put_more t p1.new.s p2.new.s w1 a.k (a.first + 1) a.w.kind p1.ensures p2.ensures in
    let e3 = rows_put_more t p2.new.s p3.new.s w2 a.k (a.first + 2) a.w.word (e2) p3.ensures in
    let e4 = rows_put_more t p3.new.s p4.new.s w3 a.k (a.first + 3) a.w.t (e3) p4.ensures in
    let e5 = rows_put_more t p4.new.s p5.new.s w4 a.k (a.first + 4) a.w.error (e4) p5.ensures in
    rows_put_more t p5.new.s p6.new.s w5 a.k (a.first + 5) a.w.message (e5) p6.ensures
