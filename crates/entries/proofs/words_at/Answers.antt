-- `entries::words_at` meets its contract.
use Rattle.entries.proofs.words_at.Goals as goal

pub returns : goal.returns
returns c = simp (c.row_cell-6.ensures, c.row_cell-5.ensures, c.row_cell-4.ensures, c.row_cell-3.ensures, c.row_cell-2.ensures, c.row_cell.ensures)
