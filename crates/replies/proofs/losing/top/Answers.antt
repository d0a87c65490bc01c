-- `replies::losing::top` meets its contract.
use mathlib.Core.Path.{◌≡◌, refl, sym}
use mathlib.Core.Bool.{true, false}
use Rattle.board.specs.Board.{board_in}
use Rattle.heads.specs.declared.progress.Phase.TheVariants.{Connect}
use Rattle.replies.specs.Reply as reply
use Rattle.replies.specs.Worker.{worker, asks}
use Rattle.replies.specs.Losing.{ended, top}
use Rattle.replies.proofs.DoneLaws.{done_is, wrote_nothing}
use Rattle.replies.proofs.losing.top.Goals as goal

pub returns-then-e : goal.returns-then-e
unfolding top
returns-then-e c =
    let a = c.args in
    let W = worker a.e (board_in a.board.now) in
    let test : a.e.link.stopping ≡ true = c.if-e.true in
    done_is (ended W) (top W) _ _ _ _ (simp test) c.ended.ensures

pub returns : goal.returns
unfolding top
returns c =
    let a = c.args in
    let W = worker a.e (board_in a.board.now) in
    let test : a.e.link.stopping ≡ false = c.if-e.false in
    done_is (asks W Connect reply.connect) (top W) c.phased.result a.board.now a.out.now a.out.now (simp test)
    (record {
      head_is = simp c.phased.ensures;
      board_is = refl;
      reply_is = simp c.phased.ensures;
      out_is = sym (wrote_nothing a.out.now);
      silent = λ h. refl;
    })
