-- `cycles::polling::resume` meets its contract.
use mathlib.Core.Path.{◌≡◌, refl, ap, sym}
use Rattle.board.specs.Board.{board_in}
use Rattle.heads.specs.declared.progress.After.TheVariants.{Tail, Idle, End}
use Rattle.replies.specs.Worker.{worker}
use Rattle.replies.specs.Losing.{ended}
use Rattle.replies.proofs.DoneLaws.{done_is, quiet_done}
use Rattle.cycles.specs.Polling.{tail, idle, resume}
use Rattle.cycles.proofs.polling.resume.Goals as goal

pub returns-in-Tail : goal.returns-in-Tail
unfolding resume
returns-in-Tail c =
    let a = c.args in
    let B = board_in a.board.now in
    let W = worker a.e B in
    let t = a.at in
    let is : a.after ≡ Tail = c.in-Tail.is in
    let said = (c.tail.ensures B) in
    done_is (tail W t) (resume W t a.after) c.tail.result a.board.now a.out.now a.out.now (sym (ap (resume W t) is))
    (quiet_done (tail W t) c.tail.result B a.board.now a.out.now said refl)

pub returns-in-Idle : goal.returns-in-Idle
unfolding resume
returns-in-Idle c =
    let a = c.args in
    let B = board_in a.board.now in
    let W = worker a.e B in
    let t = a.at in
    let is : a.after ≡ Idle = c.in-Idle.is in
    let said = (c.idle.ensures B) in
    done_is (idle W t) (resume W t a.after) c.idle.result a.board.now a.out.now a.out.now (sym (ap (resume W t) is))
    (quiet_done (idle W t) c.idle.result B a.board.now a.out.now said refl)

pub returns-in-End : goal.returns-in-End
unfolding resume
returns-in-End c =
    let a = c.args in
    let W = worker a.e (board_in a.board.now) in
    let t = a.at in
    let is : a.after ≡ End = c.in-End.is in
    done_is (ended W) (resume W t a.after) _ _ _ _ (sym (ap (resume W t) is)) c.ended.ensures
