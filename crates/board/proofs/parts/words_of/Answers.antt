-- `board::parts::words_of` meets its contract.
use native.Mathlib.Omega.{arith}
use lib.ListN.{length}
use Rattle.board.specs.Layout.{words}
use Rattle.board.proofs.BoardLaws.{part_lent}
use Rattle.board.proofs.parts.words_of.Goals as goal

pub returns : goal.returns
returns c =
    let bs = c.args.b.now in
    let from = c.words_start in
    part_lent words bs from.result (length bs) from.ensures (omega (arith, c.requires.0))
