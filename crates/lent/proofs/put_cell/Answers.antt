-- `lent::put_cell` meets its contract.
use native.Mathlib.Numerals.{add-one, add-two, add-three, add-four, add_five, add_six, add_seven}
use Rattle.lent.proofs.LentLaws.{cell_stored, cell_kept}
use Rattle.lent.proofs.put_cell.Goals as goal

pub returns-then-out-i : goal.returns-then-out-i
returns-then-out-i c =
    let a = c.args in
    cell_kept a.out.now a.i a.v c.if-out-i.true

pub returns : goal.returns
returns c =
    let a = c.args in
    rw (← cell_stored a.out.now a.i a.v c.if-out-i.false)
    (simp (add-one, add-two, add-three, add-four, add_five, add_six, add_seven))
