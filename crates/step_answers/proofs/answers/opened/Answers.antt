-- `step_answers::answers::opened` meets its contract.
use mathlib.Core.Path.{◌≡◌, refl, ap, sym, ◌∙◌}
use mathlib.Core.Bool.{Bool, true, false, cond}
use Prim.Native.Nat.{ℕ}
use lib.Dec.{eqb}
use Rattle.board.specs.Board.{board_in}
use Rattle.heads.specs.declared.progress.Phase.TheVariants.{OpenVersion, OpenFailedTold}
use Rattle.replies.specs.Reply as reply
use Rattle.replies.specs.declared.response.Response.TheVariants as response
use Rattle.replies.specs.Worker.{worker, asks}
use Rattle.replies.specs.Losing.{is_empty, failing}
use Rattle.replies.proofs.DoneLaws.{done_is}
use Rattle.step_answers.specs.Answers.{opened}
use Rattle.step_answers.proofs.AnswerLaws.{empty_is, asked_done}
use borrow.Author.Tests.{eq-eqb, ne_eqb}
use Rattle.step_answers.proofs.answers.opened.Goals as goal

pub returns-then-queued-eq0 : goal.returns-then-queued-eq0
unfolding opened
returns-then-queued-eq0 c =
    let a = c.args in
    let B = board_in a.board.now in
    let W = worker a.e B in
    let test : is_empty B.queue ≡ true = sym (empty_is B.queue) ∙ ap (λ (n : ℕ). eqb n 0) (sym c.queued.ensures) ∙ eq-eqb _ _ c.if-queued-eq0.true in
    done_is (asks W OpenVersion reply.version) (opened W) _ _ _ _ (ap (λ (b : Bool). cond b (asks W OpenVersion reply.version) (failing W OpenFailedTold)) (sym test))
    (asked_done a.e B OpenVersion response.Version _ _ _ c.phased.ensures refl)

pub returns : goal.returns
unfolding opened
returns c =
    let a = c.args in
    let B = board_in a.board.now in
    let W = worker a.e B in
    let test : is_empty B.queue ≡ false = sym (empty_is B.queue) ∙ ap (λ (n : ℕ). eqb n 0) (sym c.queued.ensures) ∙ ne_eqb _ _ c.if-queued-eq0.false in
    done_is (failing W OpenFailedTold) (opened W) _ _ _ _ (ap (λ (b : Bool). cond b (asks W OpenVersion reply.version) (failing W OpenFailedTold)) (sym test)) c.failing.ensures
