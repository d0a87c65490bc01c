-- `board::parts::configured_of` meets its contract.
use Rattle.board.specs.Layout.{configured}
use Rattle.board.proofs.BoardLaws.{part_lent}
use Rattle.board.proofs.parts.configured_of.Goals as goal

pub returns : goal.returns
returns c =
    let from = c.configured_start in
    let to = c.queue_start in
    part_lent configured c.args.b.now from.result to.result from.ensures to.ensures
