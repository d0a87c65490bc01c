-- `cycles::polling::poll` meets its contract.
use mathlib.Core.Path.{◌≡◌}
use mathlib.Core.Bool.{true, false}
use Rattle.board.specs.Board.{board_in}
use Rattle.heads.specs.declared.progress.After.TheVariants.{End}
use Rattle.replies.specs.Worker.{worker}
use Rattle.replies.proofs.DoneLaws.{done_is}
use Rattle.cycles.specs.Polling.{writing, polled, round_at, poll}
use Rattle.cycles.proofs.polling.poll.Goals as goal

pub returns-then-e : goal.returns-then-e
unfolding poll
returns-then-e c =
    let a = c.args in
    let W = worker a.e (board_in a.board.now) in
    let t = a.at in
    let y = c.writing in
    let test : a.e.link.stopping ≡ true = c.if-e.true in
    done_is (writing W t End) (poll W t) y.result y.new.board a.out.now y.new.out (simp test)
    y.ensures

pub returns : goal.returns
unfolding poll
returns c =
    let a = c.args in
    let W = worker a.e (board_in a.board.now) in
    let t = a.at in
    let y = c.polled in
    let test : a.e.link.stopping ≡ false = c.if-e.false in
    done_is (polled W t (round_at W t)) (poll W t) y.result y.new.board a.out.now y.new.out (simp test)
    y.ensures
