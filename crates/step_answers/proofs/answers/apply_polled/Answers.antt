-- `step_answers::answers::apply_polled` meets its contract.
use mathlib.Core.Bool.{true}
use mathlib.Core.Path.{subst}
use lib.IntN.{ℤ}
use mir.Syntax.{w64}
use mir.ValLaws.{to_z-of_z}
use Rattle.board.specs.Board.{board_in}
use Rattle.readings.specs.Changes.{Changing, applied_to}
use Rattle.step_answers.proofs.answers.apply_polled.Goals as goal

pub returns : goal.returns
returns c =
    let a = c.args in
    let y = c.apply in
    let B = board_in a.board.now in
    subst (λ (t : ℤ). Changing (applied_to B a.results.now a.e.progress.start t true) y.result y.new.b a.out.now y.new.out) (to_z-of_z w64 a.t c.ranges.t) y.ensures
