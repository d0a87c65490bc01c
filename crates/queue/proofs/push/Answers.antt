-- `queue::push` meets its contract.
use native.Mathlib.Omega.{arith}
use Rattle.queue.proofs.QueueLaws.{push_put}
use Rattle.queue.proofs.push.Goals as goal

pub returns-then-n-room_of : goal.returns-then-n-room_of
returns-then-n-room_of c =
    let a = c.args in
    let put = c.put_place in
    let put2 = c.put_cell in
    push_put a.q.now put.new.q put2.new.s c.queued-n.result a.w c.queued-n.ensures (omega arith) put.auto.q put2.auto.s put.ensures put2.ensures
