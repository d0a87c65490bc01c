-- `queue::queued` meets its contract.
use native.Mathlib.Omega.{arith}
use Rattle.queue.proofs.QueueLaws.{length-queue}
use Rattle.queue.proofs.queued.Goals as goal

pub returns-then-n-most : goal.returns-then-n-most
returns-then-n-most c = omega (arith, length-queue c.args.q.now, c.cell-n.ensures, c.room_of-most.ensures)

pub returns-else-n-most : goal.returns-else-n-most
returns-else-n-most c = omega (arith, length-queue c.args.q.now, c.cell-n.ensures, c.room_of-most.ensures)
