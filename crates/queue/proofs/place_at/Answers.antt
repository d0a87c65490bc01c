-- `queue::place_at` meets its contract.
use mathlib.Core.Path.{sym}
use native.Mathlib.Omega.{arith}
use Rattle.queue.specs.Queue.{write_from}
use Rattle.queue.proofs.QueueLaws.{place_read, place_none}
use Rattle.queue.proofs.place_at.Goals as goal

pub returns-then-room_of-i : goal.returns-then-room_of-i
returns-then-room_of-i c =
    let a = c.args in
    sym (place_none a.q.now a.i (omega arith))

pub returns : goal.returns
unfolding write_from
returns c =
    let a = c.args in
    rw (c.value_from.ensures, c.cell-3.ensures, c.cell-2.ensures, c.cell.ensures) (sym (place_read a.q.now a.i (omega arith)))
