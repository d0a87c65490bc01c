-- `board::parts::recorded_of` meets its contract.
use Rattle.board.specs.Layout.{recorded}
use Rattle.board.proofs.BoardLaws.{part_lent}
use Rattle.board.proofs.parts.recorded_of.Goals as goal

pub returns : goal.returns
returns c =
    let from = c.recorded_start in
    let to = c.configured_start in
    part_lent recorded c.args.b.now from.result to.result from.ensures to.ensures
