-- `board::recording::note` meets its contract.
use mathlib.Core.Path.{◌≡◌, ap, sym, ◌∙◌}
use mathlib.Core.Bool.{true, false}
use Rattle.tags.specs.Lists.{member}
use Rattle.groups.specs.Groups.{noted}
use Rattle.board.specs.Board.{Board, board_in}
use Rattle.board.proofs.recording.note.Goals as goal

pub returns-then-not-is_recorded : goal.returns-then-not-is_recorded
unfolding noted
returns-then-not-is_recorded c =
    let a = c.args in
    let read = c.read_group in
    let new : member a.g (board_in a.b.now).groups.recorded ≡ false =
    ap (λ (X : Board). member a.g X.groups.recorded) (sym read.ensures.board) ∙ sym c.is_recorded.ensures ∙ c.if-not-is_recorded.true
    in
    rw new (rw read.ensures.board at c.push_recorded.ensures)

pub returns-else-not-is_recorded : goal.returns-else-not-is_recorded
unfolding noted
returns-else-not-is_recorded c =
    let a = c.args in
    let read = c.read_group in
    let old : member a.g (board_in a.b.now).groups.recorded ≡ true =
    ap (λ (X : Board). member a.g X.groups.recorded) (sym read.ensures.board) ∙ sym c.is_recorded.ensures ∙ c.if-not-is_recorded.false
    in
    rw old read.ensures
