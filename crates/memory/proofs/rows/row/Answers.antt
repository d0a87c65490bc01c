-- `memory::rows::row` meets its contract.
use mathlib.Core.Path.{sym, ◌∙◌}
use native.Mathlib.Omega.{arith}
use lib.ListN.{get_or}
use Rattle.memory.specs.Cells.{rows_in, no_row}
use Rattle.memory.proofs.LoopLaws.{fill_more, fill_all}
use Rattle.memory.proofs.RowLaws.{rows_none, row_long, row_cell_at}
use Rattle.memory.proofs.rows.row.Goals as goal

pub returns-then-s-k : goal.returns-then-s-k
returns-then-s-k c =
    let a = c.args in
    sym (rows_none a.s.now a.k c.if-s-k.true)

pub loop-j-preserved : goal.loop-j-preserved
loop-j-preserved c =
    let a = c.args in
    let l = c.loop-j in
    let s = a.s.now in
    let long = row_long s a.k in (
      omega arith,
      fill_more no_row (get_or (rows_in s) a.k no_row) l.w l.j l.invariant.1 c.word.result 0
          (c.word.ensures ∙ sym (row_cell_at s a.k l.j c.if-s-k.false c.loop-j-test.true)) (omega arith) (omega arith),
    )

pub returns : goal.returns
returns c =
    let a = c.args in
    let l = c.loop-j in
    let s = a.s.now in
    let long = row_long s a.k in
    fill_all no_row (get_or (rows_in s) a.k no_row) l.w l.j l.invariant.1 (omega arith) (sym long)
