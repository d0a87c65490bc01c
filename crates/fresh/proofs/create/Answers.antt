-- `fresh::create` meets its contract.
use mathlib.Core.Path.{ap, ◌∙◌}
use Rattle.board.specs.Board.{board_in}
use Rattle.fresh.specs.Fresh.{empty_board}
use Rattle.fresh.proofs.FreshLaws.{made}
use Rattle.fresh.proofs.create.Goals as goal

pub returns : goal.returns
returns c =
    let a = c.args in
    let zero = c.clear in
    let keyed = c.keep_keys in
    let worded = c.keep_words in
    let grouped = c.keep_groups in
    let taken = c.take_all in
    record {
      still = taken.ensures.still;
      board = made a.directory.names.now a.directory.ends.now a.settings.now a.groups.now (board_in zero.new.b) (board_in keyed.new.b) (board_in worded.new.b) (board_in grouped.new.b) (board_in taken.new.b)
          (zero.ensures.board ∙ ap empty_board c.requires.b_value) keyed.ensures.board worded.ensures.board grouped.ensures.board taken.ensures.board;
    }
