-- `board::parts::order_of` meets its contract.
use Rattle.board.specs.Layout.{order}
use Rattle.board.proofs.BoardLaws.{part_lent}
use Rattle.board.proofs.parts.order_of.Goals as goal

pub returns : goal.returns
returns c =
    let from = c.order_start in
    let to = c.graces_start in
    part_lent order c.args.b.now from.result to.result from.ensures to.ensures
