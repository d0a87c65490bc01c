-- `worker::steps::taken` meets its contract.
use mathlib.Core.Path.{refl, ap, sym}
use Rattle.heads.specs.declared.progress.Phase.{Phase}
use Rattle.heads.specs.declared.progress.Phase.TheVariants.{OpenVersion}
use Rattle.board.specs.Board.{board_in}
use Rattle.replies.specs.Reply as reply
use Rattle.replies.specs.Worker.{worker, asks}
use Rattle.replies.specs.Losing.{backing_off, disconnected}
use Rattle.replies.proofs.DoneLaws.{done_is, quiet_done}
use Rattle.cycles.specs.Polling.{polls}
use Rattle.step_answers.specs.Answers.{connected}
use Rattle.worker.specs.Steps.{taken}
use Rattle.worker.proofs.steps.taken.Goals as goal

pub returns-in-OpenFailedTold : goal.returns-in-OpenFailedTold
unfolding taken
returns-in-OpenFailedTold c =
    let a = c.args in
    let B = board_in a.board.now in
    let W = worker a.e B in
    let told = asks W OpenVersion reply.version in
    done_is told (taken a.p W a.at) _ _ _ _ (ap (λ (p : Phase). taken p W a.at) (sym c.in-OpenFailedTold.is))
    (quiet_done told _ B a.board.now a.out.now
    (record { head_is = simp c.phased.ensures; reply_is = simp c.phased.ensures; board_kept = refl; nothing = refl }) refl)

pub returns-in-OpenMetaTold : goal.returns-in-OpenMetaTold
unfolding taken
returns-in-OpenMetaTold c =
    let a = c.args in
    let B = board_in a.board.now in
    let W = worker a.e B in
    done_is (connected W) (taken a.p W a.at) _ _ _ _ (ap (λ (p : Phase). taken p W a.at) (sym c.in-OpenMetaTold.is))
    (quiet_done (connected W) _ B a.board.now a.out.now (c.connected.ensures B) refl)

pub returns-in-ConnectedTold : goal.returns-in-ConnectedTold
unfolding taken
returns-in-ConnectedTold c =
    let a = c.args in
    let B = board_in a.board.now in
    let W = worker a.e B in
    done_is (polls W) (taken a.p W a.at) _ _ _ _ (ap (λ (p : Phase). taken p W a.at) (sym c.in-ConnectedTold.is))
    (quiet_done (polls W) _ B a.board.now a.out.now (c.polls.ensures B) refl)

pub returns-in-StaleTold : goal.returns-in-StaleTold
unfolding taken
returns-in-StaleTold c =
    let a = c.args in
    let B = board_in a.board.now in
    let W = worker a.e B in
    done_is (disconnected W) (taken a.p W a.at) _ _ _ _ (ap (λ (p : Phase). taken p W a.at) (sym c.in-StaleTold.is))
    (quiet_done (disconnected W) _ B a.board.now a.out.now (c.disconnected.ensures B) refl)

pub returns-in-DisconnectedTold : goal.returns-in-DisconnectedTold
unfolding taken
returns-in-DisconnectedTold c =
    let a = c.args in
    let B = board_in a.board.now in
    let W = worker a.e B in
    done_is (backing_off W) (taken a.p W a.at) _ _ _ _ (ap (λ (p : Phase). taken p W a.at) (sym c.in-DisconnectedTold.is))
    (quiet_done (backing_off W) _ B a.board.now a.out.now (c.backing_off.ensures B) refl)
