-- `step_answers::answers::waited` meets its contract.
use mathlib.Core.Path.{◌≡◌, ap, sym}
use mathlib.Core.Bool.{Bool, true, false, cond}
use Rattle.board.specs.Board.{board_in}
use Rattle.heads.specs.declared.progress.After.TheVariants.{Idle, End}
use Rattle.replies.specs.Worker.{worker}
use Rattle.replies.proofs.DoneLaws.{done_is}
use Rattle.cycles.specs.Polling.{writing}
use Rattle.step_answers.specs.Answers.{waited}
use Rattle.step_answers.proofs.answers.waited.Goals as goal

pub returns-then-e : goal.returns-then-e
unfolding waited
returns-then-e c =
    let a = c.args in
    let W = worker a.e (board_in a.board.now) in
    let t = a.at in
    let test : a.e.link.stopping ≡ true = c.if-e.true in
    let here : writing W t End ≡ waited W t = ap (λ (b : Bool). writing W t (cond b End Idle)) (sym test) in
    done_is _ (waited W t) _ _ _ _ here c.writing.ensures

pub returns : goal.returns
unfolding waited
returns c =
    let a = c.args in
    let W = worker a.e (board_in a.board.now) in
    let t = a.at in
    let test : a.e.link.stopping ≡ false = c.if-e.false in
    let here : writing W t Idle ≡ waited W t = ap (λ (b : Bool). writing W t (cond b End Idle)) (sym test) in
    done_is _ (waited W t) _ _ _ _ here c.writing-2.ensures
