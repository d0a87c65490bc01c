-- `board::parts::table_of` meets its contract.
use Rattle.board.specs.Layout.{table}
use Rattle.board.proofs.BoardLaws.{part_lent}
use Rattle.board.proofs.parts.table_of.Goals as goal

pub returns : goal.returns
returns c =
    let from = c.table_start in
    let to = c.order_start in
    part_lent table c.args.b.now from.result to.result from.ensures to.ensures
