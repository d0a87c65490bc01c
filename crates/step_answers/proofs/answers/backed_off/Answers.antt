-- `step_answers::answers::backed_off` meets its contract.
use mathlib.Core.Path.{◌≡◌, ap, sym}
use mathlib.Core.Bool.{Bool, true, false, cond}
use Rattle.board.specs.Board.{board_in}
use Rattle.replies.specs.Worker.{worker}
use Rattle.replies.specs.Losing.{ended}
use Rattle.replies.proofs.DoneLaws.{done_is}
use Rattle.step_answers.specs.Answers.{reconnecting, backed_off}
use Rattle.step_answers.proofs.answers.backed_off.Goals as goal

pub returns-then-e : goal.returns-then-e
unfolding backed_off
returns-then-e c =
    let a = c.args in
    let W = worker a.e (board_in a.board.now) in
    let test : a.e.link.stopping ≡ true = c.if-e.true in
    done_is (ended W) (backed_off W) _ _ _ _ (ap (λ (b : Bool). cond b (ended W) (reconnecting W)) (sym test)) c.ended.ensures

pub returns : goal.returns
unfolding backed_off
returns c =
    let a = c.args in
    let W = worker a.e (board_in a.board.now) in
    let test : a.e.link.stopping ≡ false = c.if-e.false in
    done_is (reconnecting W) (backed_off W) _ _ _ _ (ap (λ (b : Bool). cond b (ended W) (reconnecting W)) (sym test)) c.reconnecting.ensures
