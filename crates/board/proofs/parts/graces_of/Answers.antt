-- `board::parts::graces_of` meets its contract.
use Rattle.board.specs.Layout.{graces}
use Rattle.board.proofs.BoardLaws.{part_lent}
use Rattle.board.proofs.parts.graces_of.Goals as goal

pub returns : goal.returns
returns c =
    let from = c.graces_start in
    let to = c.asked_start in
    part_lent graces c.args.b.now from.result to.result from.ensures to.ensures
