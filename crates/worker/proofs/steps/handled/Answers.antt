-- `worker::steps::handled` meets its contract.
use mathlib.Core.Path.{ap, sym}
use Rattle.heads.specs.declared.progress.Phase.{Phase}
use Rattle.board.specs.Board.{board_in}
use Rattle.replies.specs.Worker.{worker}
use Rattle.replies.proofs.DoneLaws.{done_is}
use Rattle.step_checks.specs.Awaited.{answer}
use Rattle.step_answers.specs.Answers.{open_version, read_back}
use Rattle.worker.specs.Steps.{handled}
use Rattle.worker.proofs.steps.handled.Goals as goal

pub returns-in-OpenVersion : goal.returns-in-OpenVersion
unfolding handled
returns-in-OpenVersion c =
    let a = c.args in
    let W = worker a.e (board_in a.board.now) in
    let A = answer a.a in
    done_is (open_version W A) (handled a.p W a.at A) _ _ _ _ (ap (λ (p : Phase). handled p W a.at A) (sym c.in-OpenVersion.is)) (c.open_version.ensures a.out.now)

pub returns-in-ReadBack : goal.returns-in-ReadBack
unfolding handled
returns-in-ReadBack c =
    let a = c.args in
    let W = worker a.e (board_in a.board.now) in
    let A = answer a.a in
    done_is (read_back W A) (handled a.p W a.at A) _ _ _ _ (ap (λ (p : Phase). handled p W a.at A) (sym c.in-ReadBack.is)) (c.read_back.ensures a.out.now)
