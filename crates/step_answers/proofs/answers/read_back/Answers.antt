-- `step_answers::answers::read_back` meets its contract.
use mathlib.Core.Path.{◌≡◌, refl, ap, sym, ◌∙◌}
use mathlib.Core.Bool.{Bool, true, false, cond}
use Rattle.values.specs.declared.value.Value.TheVariants.{Null}
use Rattle.writes.specs.ReadBack.{read_back_first, kept_back}
use Rattle.board.specs.Board.{board_in}
use Rattle.heads.specs.declared.progress.Phase.TheVariants.{LostTold, OutcomeTold}
use Rattle.replies.specs.Reply as reply
use Rattle.replies.specs.declared.response.Response.TheVariants as response
use Rattle.replies.specs.declared.response.Outcome.TheVariants.{WentThrough}
use Rattle.values.specs.declared.value.Value.{Value}
use Rattle.replies.specs.Worker.{worker, said_in, asks}
use Rattle.replies.proofs.DoneLaws.{done_is}
use Rattle.step_checks.specs.Awaited.{answer}
use Rattle.step_checks.specs.Kinds.{is_lost}
use Rattle.step_checks.proofs.KindLaws.{not_lost}
use Rattle.step_answers.specs.Answers.{read_back}
use Rattle.step_answers.proofs.AnswerLaws.{asked_done}
use Rattle.step_answers.proofs.answers.read_back.Goals as goal

pub returns-in-Lost : goal.returns-in-Lost
unfolding read_back
returns-in-Lost c out =
    let a = c.args in
    let B = board_in a.board.now in
    let A = answer a.a in
    let list = A.list in
    let k = a.e.progress.tag in
    let W = worker a.e B in
    let test : is_lost A.kind ≡ true = ap is_lost c.in-Lost.is in
    let lost = asks W LostTold (reply.went_through k Null) in
    let kept = asks (worker a.e (kept_back B list)) OutcomeTold (reply.went_through k (read_back_first list)) in
    done_is lost (read_back W A) _ _ _ _ (ap (λ (b : Bool). cond b lost kept) (sym test))
    (asked_done a.e B LostTold (response.Outcome k (WentThrough Null)) _ _ out c.phased.ensures refl)

pub returns : goal.returns
unfolding read_back
returns c out =
    let a = c.args in
    let B = board_in a.board.now in
    let A = answer a.a in
    let list = A.list in
    let k = a.e.progress.tag in
    let W = worker a.e B in
    let test : is_lost A.kind ≡ false = not_lost A.kind c.in_default.not-Lost in
    let lost = asks W LostTold (reply.went_through k Null) in
    let kept = asks (worker a.e (kept_back B list)) OutcomeTold (reply.went_through k (read_back_first list)) in
    done_is kept (read_back W A) _ _ _ _ (ap (λ (b : Bool). cond b lost kept) (sym test))
    (asked_done a.e (kept_back B list) OutcomeTold (response.Outcome k (WentThrough (read_back_first list))) _ _ out (c.phased-2.ensures ∙ ap (λ (v : Value). said_in a.e OutcomeTold (response.Outcome k (WentThrough v))) c.read_back_value.ensures) c.keep_back.ensures.board)
