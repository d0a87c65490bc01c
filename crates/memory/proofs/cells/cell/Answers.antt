-- `memory::cells::cell` meets its contract.
use mathlib.Core.Path.{sym}
use Rattle.memory.proofs.CellLaws.{cells_none}
use Rattle.memory.proofs.cells.cell.Goals as goal

pub returns-else-i-s : goal.returns-else-i-s
returns-else-i-s c =
    let a = c.args in
    sym (cells_none a.s.now a.i c.if-i-s.false)
