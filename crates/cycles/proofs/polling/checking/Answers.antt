-- `cycles::polling::checking` meets its contract.
use mathlib.Core.Path.{◌≡◌, refl, sym}
use mathlib.Core.Bool.{true, false}
use Rattle.board.specs.Board.{board_in}
use Rattle.heads.specs.declared.progress.After.TheVariants.{Tail}
use Rattle.heads.specs.declared.progress.Phase.TheVariants.{Version}
use Rattle.replies.specs.Reply as reply
use Rattle.replies.specs.Worker.{worker, asks}
use Rattle.replies.proofs.DoneLaws.{done_is, wrote_nothing}
use Rattle.cycles.specs.Polling.{writing, checking}
use Rattle.cycles.proofs.polling.checking.Goals as goal

pub returns-then-e : goal.returns-then-e
unfolding checking
returns-then-e c =
    let a = c.args in
    let W = worker a.e (board_in a.board.now) in
    let t = a.at in
    let test : a.e.progress.boundary ≡ true = c.if-e.true in
    done_is (asks W Version reply.version) (checking W t) c.phased.result a.board.now a.out.now a.out.now (simp test)
    (record {
      head_is = simp c.phased.ensures;
      board_is = refl;
      reply_is = simp c.phased.ensures;
      out_is = sym (wrote_nothing a.out.now);
      silent = λ h. refl;
    })

pub returns : goal.returns
unfolding checking
returns c =
    let a = c.args in
    let W = worker a.e (board_in a.board.now) in
    let t = a.at in
    let y = c.writing in
    let test : a.e.progress.boundary ≡ false = c.if-e.false in
    done_is (writing W t Tail) (checking W t) y.result y.new.board a.out.now y.new.out (simp test)
    y.ensures
