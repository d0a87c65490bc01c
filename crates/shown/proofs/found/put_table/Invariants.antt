use mathlib.Core.Path.{◌≡◌}
use lib.ListN.{length, take}
use Rattle.lent.specs.Lent.{cell_bytes, over_bytes, records}
use Rattle.board.specs.Board.{board_in}
use Rattle.shown.specs.Looks.{row_cells}
use Rattle.shown.proofs.found.put_table.Given as goal

abbrev pub invariant-loop-i : goal.invariant-loop-i
invariant-loop-i l =
    let B = board_in l.board in
    (length l.out ≡ length l.initial.out) × (l.out ≡ over_bytes l.initial.out (cell_bytes (records (row_cells B) (take l.i B.table.order))))
