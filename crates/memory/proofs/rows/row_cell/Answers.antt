-- `memory::rows::row_cell` meets its contract.
use mathlib.Core.Path.{sym, ◌∙◌}
use mathlib.Core.Logic.{⊎_elim}
use Rattle.memory.proofs.RowLaws.{row_cell_at, row_cell_none, row_none_cell}
use Rattle.memory.proofs.rows.row_cell.Goals as goal

pub returns-then-j-lt32 : goal.returns-then-j-lt32
returns-then-j-lt32 c =
    let a = c.args in
    c.word.ensures ∙ sym (row_cell_at a.s.now a.k a.j c.if-k-s.true c.if-j-lt32.true)

pub returns-else-k-s : goal.returns-else-k-s
returns-else-k-s c =
    let a = c.args in
    sym (⊎_elim (λ h. row_cell_none a.s.now a.k a.j h.1) (λ h. row_none_cell a.s.now a.k a.j h) c.else-k-s.either)
