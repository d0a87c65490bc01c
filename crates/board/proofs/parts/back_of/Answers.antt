-- `board::parts::back_of` meets its contract.
use mathlib.Core.Path.{refl}
use Rattle.board.specs.Layout.{back}
use Rattle.board.proofs.BoardLaws.{part_lent}
use Rattle.board.proofs.parts.back_of.Goals as goal

pub returns : goal.returns
returns c =
    let to = c.recorded_start in
    part_lent back c.args.b.now 0 to.result refl to.ensures
