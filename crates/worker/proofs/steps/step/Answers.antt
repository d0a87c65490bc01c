-- `worker::steps::step` meets its contract.
use mathlib.Core.Path.{refl, ap, sym, ◌∙◌}
use lib.ListN.{length}
use Rattle.std.specs.Prelude.{⊤, Result}
use Rattle.refusals.specs.Refusals.{code}
use Rattle.refusals.specs.declared.Refusal.{Refusal}
use Rattle.engine.specs.declared.Engine.{Engine}
use Rattle.board.specs.Board.{board_in}
use Rattle.replies.specs.Worker.{worker, Done}
use Rattle.replies.proofs.DoneLaws.{done_is}
use Rattle.cycles.specs.Polling.{finished}
use Rattle.step_checks.specs.Awaited.{answer}
use Rattle.worker.specs.Steps.{handled, stepped, step, Stepped}
use Rattle.worker.proofs.StepLaws.{step_refused, step_accepted}
use Rattle.worker.proofs.steps.step.Goals as goal

pub returns-in-Err : goal.returns-in-Err
unfolding Stepped
returns-in-Err c =
    let a = c.args in
    let W = worker a.e (board_in a.board.now) in
    let said = ap (λ (x : Result ⊤ Refusal). code x) (sym c.in-Err.is) ∙ c.step_check.ensures in
    (step_refused W a.at (answer a.a) (length a.out.now) c.in-Err.refusal said, refl, refl)

pub returns : goal.returns
unfolding Stepped stepped
returns c =
    let a = c.args in
    let B = board_in a.board.now in
    let W = worker a.e B in
    let A = answer a.a in
    let said = ap (λ (x : Result ⊤ Refusal). code x) (sym c.in_default.is) ∙ c.step_check.ensures in
    let phase = a.e.progress.phase in
    let f = c.finish in
    let whole : Done (stepped W a.at A) f.result f.new.board a.out.now f.new.out =
    done_is _ (stepped W a.at A) _ _ _ _
    (ap (λ (e : Engine). finished (handled phase (worker e B) a.at A) a.at) c.with_clock-clocked.ensures)
    (f.ensures.goes _ a.out.now c.handled-s.ensures) in
    done_is (stepped W a.at A) (step W a.at A (length a.out.now)) _ _ _ _ (step_accepted W a.at A (length a.out.now) said) whole
