-- `memory::rows::put_row_cell` meets its contract.
use mathlib.Core.Logic.{⊎_elim}
use lib.ListN.{get_or, set}
use Rattle.memory.specs.Cells.{rows_in, no_row}
use Rattle.memory.proofs.RowLaws.{rows_kept, row_cell_kept, row_cell_put}
use Rattle.memory.proofs.rows.put_row_cell.Goals as goal

pub returns-then-j-lt32 : goal.returns-then-j-lt32
returns-then-j-lt32 c =
    let a = c.args in
    let put = c.put_word in
    row_cell_put a.s.now put.new.s a.k a.j a.v put.auto.s
    c.if-k-s.true c.if-j-lt32.true put.ensures

pub returns-else-k-s : goal.returns-else-k-s
returns-else-k-s c =
    let a = c.args in
    ⊎_elim (λ h. row_cell_kept a.s.now a.k a.j a.v h.1) (λ h. rows_kept a.s.now (set (get_or (rows_in a.s.now) a.k no_row) a.j a.v) a.k h) c.else-k-s.either
