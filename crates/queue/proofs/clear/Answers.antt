-- `queue::clear` meets its contract.
use Rattle.queue.proofs.QueueLaws.{cleared}
use Rattle.queue.proofs.clear.Goals as goal

pub returns : goal.returns
returns c = cleared c.args.q.now c.put_cell.new.s c.put_cell.ensures
