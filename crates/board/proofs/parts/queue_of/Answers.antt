-- `board::parts::queue_of` meets its contract.
use Rattle.board.specs.Layout.{queue}
use Rattle.board.proofs.BoardLaws.{part_lent}
use Rattle.board.proofs.parts.queue_of.Goals as goal

pub returns : goal.returns
returns c =
    let from = c.queue_start in
    let to = c.groups_start in
    part_lent queue c.args.b.now from.result to.result from.ensures to.ensures
