-- `replies::losing::down` meets its contract.
use mathlib.Core.Path.{◌≡◌, sym, ◌∙◌}
use mathlib.Core.Bool.{true, false}
use Rattle.queue.specs.declared.Write.{Write}
use Rattle.board.specs.Board.{board_in}
use Rattle.heads.specs.declared.progress.Phase.TheVariants.{FailedTold}
use Rattle.replies.specs.Worker.{worker}
use Rattle.replies.specs.Losing.{is_empty, ended, staling, failing, down}
use Rattle.replies.proofs.DoneLaws.{done_is}
use Rattle.replies.proofs.EmptyLaws.{empty_is, some_is}
use Rattle.replies.proofs.losing.down.Goals as goal

pub returns-then-e : goal.returns-then-e
unfolding down
returns-then-e c =
    let a = c.args in
    let W = worker a.e (board_in a.board.now) in
    let test : a.e.link.stopping ≡ true = c.if-e.true in
    done_is (ended W) (down W) _ _ _ _ (simp test) c.ended.ensures

pub returns-then-queued-eq0 : goal.returns-then-queued-eq0
unfolding down
returns-then-queued-eq0 c =
    let a = c.args in
    let W = worker a.e (board_in a.board.now) in
    let test : a.e.link.stopping ≡ false = c.if-e.false in
    let none : is_empty W.board.queue ≡ true = empty_is {A = Write} W.board.queue (sym c.queued.ensures ∙ c.if-queued-eq0.true) in
    done_is (staling W) (down W) _ _ _ _ (simp (test, none)) c.staling.ensures

pub returns : goal.returns
unfolding down
returns c =
    let a = c.args in
    let W = worker a.e (board_in a.board.now) in
    let test : a.e.link.stopping ≡ false = c.if-e.false in
    let some : is_empty W.board.queue ≡ false = some_is {A = Write} W.board.queue (λ e. c.if-queued-eq0.false (c.queued.ensures ∙ e)) in
    done_is (failing W FailedTold) (down W) _ _ _ _ (simp (test, some)) c.failing.ensures
