-- `board::parts::asked_of` meets its contract.
use Rattle.board.specs.Layout.{asked}
use Rattle.board.proofs.BoardLaws.{part_lent}
use Rattle.board.proofs.parts.asked_of.Goals as goal

pub returns : goal.returns
returns c =
    let from = c.asked_start in
    let to = c.keys_start in
    part_lent asked c.args.b.now from.result to.result from.ensures to.ensures
