-- `memory::cells::put_cell` meets its contract.
use Rattle.memory.proofs.CellLaws.{cells_kept}
use Rattle.memory.proofs.cells.put_cell.Goals as goal

pub returns-else-i-s : goal.returns-else-i-s
returns-else-i-s c =
    let a = c.args in
    cells_kept a.s.now a.i a.v c.if-i-s.false
