-- `cycles::polling::writing` meets its contract.
use mathlib.Core.Path.{◌≡◌, refl, ap, sym, ◌∙◌}
use Rattle.std.specs.Prelude.{Some, None}
use Rattle.board.specs.Board.{Board, board_in}
use Rattle.queue.specs.Queue.{popped}
use Rattle.replies.specs.Worker.{worker}
use Rattle.replies.proofs.DoneLaws.{done_is, wrote_nothing}
use Rattle.cycles.specs.Polling.{resume, writing_of, writing}
use Rattle.cycles.proofs.PollingLaws.{none_popped}
use Rattle.cycles.proofs.polling.writing.Goals as goal

pub returns-in_default : goal.returns-in_default
unfolding writing_of
returns-in_default c =
    let a = c.args in
    let B = board_in a.board.now in
    let W = worker a.e B in
    let t = a.at in
    let p = c.pop_write in
    let y = c.resume in
    let none : popped B.queue ≡ None = sym p.ensures.0 ∙ c.in_default.is in
    let same : board_in p.new.b ≡ B = p.ensures.1.board ∙ none_popped B none in
    let next = worker a.e (board_in p.new.b) in
    done_is (resume next t a.after) (writing W t a.after) y.result y.new.board a.out.now y.new.out
    (ap (λ (X : Board). resume (worker a.e X) t a.after) same ∙ sym (ap (writing_of W t a.after) none))
    y.ensures

pub returns : goal.returns
unfolding writing_of
returns c =
    let a = c.args in
    let B = board_in a.board.now in
    let W = worker a.e B in
    let t = a.at in
    let p = c.pop_write in
    let w = c.in-Some.w in
    let one : popped B.queue ≡ Some w = sym p.ensures.0 ∙ c.in-Some.is in
    done_is (writing_of W t a.after (Some w)) (writing W t a.after) _ p.new.b a.out.now a.out.now (sym (ap (writing_of W t a.after) one))
    (record {
      head_is = simp (c.with_progress.ensures, c.with_writing.ensures);
      board_is = p.ensures.1.board;
      reply_is = refl;
      out_is = sym (wrote_nothing a.out.now);
      silent = λ h. refl;
    })
