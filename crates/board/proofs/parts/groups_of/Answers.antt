-- `board::parts::groups_of` meets its contract.
use Rattle.board.specs.Layout.{groups}
use Rattle.board.proofs.BoardLaws.{part_lent}
use Rattle.board.proofs.parts.groups_of.Goals as goal

pub returns : goal.returns
returns c =
    let from = c.groups_start in
    let to = c.table_start in
    part_lent groups c.args.b.now from.result to.result from.ensures to.ensures
