-- `board::parts::keys_of` meets its contract.
use Rattle.board.specs.Layout.{keys}
use Rattle.board.proofs.BoardLaws.{part_lent}
use Rattle.board.proofs.parts.keys_of.Goals as goal

pub returns : goal.returns
returns c =
    let from = c.keys_start in
    let to = c.words_start in
    part_lent keys c.args.b.now from.result to.result from.ensures to.ensures
