-- `replies::losing::staling` meets its contract.
use mathlib.Core.Path.{◌≡◌, ap, sym, ◌∙◌}
use mathlib.Core.Bool.{true, false, false≢true}
use mathlib.Core.List.{List}
use Rattle.lent.specs.Lent.{cell_bytes, records, wrote_all}
use Prim.Native.Nat.{ℕ}
use lib.ListN.{length}
use Rattle.board.specs.Board.{board_in}
use Rattle.readings.specs.Changes.{changes_in}
use Rattle.stale.specs.Stale.{staled_in}
use Rattle.heads.specs.declared.progress.Phase.TheVariants.{StaleTold}
use Rattle.replies.specs.Reply as reply
use Rattle.replies.specs.Worker.{Told, worker, tell, phased}
use Rattle.replies.specs.Losing.{is_empty, disconnected, staling}
use Rattle.replies.proofs.DoneLaws.{done_is, wrote_nothing, quietly_done}
use Rattle.replies.proofs.EmptyLaws.{empty_is, some_is, no_items}
use Rattle.replies.proofs.losing.staling.Goals as goal

pub returns-then-n-eq0 : goal.returns-then-n-eq0
unfolding staling records cell_bytes
returns-then-n-eq0 c =
    let a = c.args in
    let m = c.mark_stale-n in
    let C = staled_in (board_in a.board.now) in
    let next = worker a.e C.board in
    let test : is_empty C.changes ≡ true = empty_is {A = ℕ} C.changes (sym m.ensures.count_is ∙ c.if-n-eq0.true) in
    let none = c.disconnected.ensures C.board in
    let wrote = ap (λ (l : List ℕ). wrote_all a.out.now (cell_bytes (changes_in C.board l))) (no_items {A = ℕ} C.changes (sym m.ensures.count_is ∙ c.if-n-eq0.true)) in
    done_is (disconnected next) (staling (worker a.e (board_in a.board.now))) _ _ _ _ (simp test)
    (quietly_done (disconnected next) c.disconnected.result C.board m.new.b a.out.now m.new.out none m.ensures.holds.board (m.ensures.out_is ∙ (wrote ∙ wrote_nothing a.out.now)))

pub returns : goal.returns
unfolding staling
returns c =
    let a = c.args in
    let m = c.mark_stale-n in
    let C = staled_in (board_in a.board.now) in
    let next = worker a.e C.board in
    let test : is_empty C.changes ≡ false = some_is {A = ℕ} C.changes (λ e. c.if-n-eq0.false (m.ensures.count_is ∙ e)) in
    let T : Told = tell (phased next StaleTold) (reply.values (length C.changes)) (cell_bytes (changes_in C.board C.changes)) in
    done_is T (staling (worker a.e (board_in a.board.now))) _ _ _ _ (simp test)
    (record {
      head_is = simp c.phased.ensures;
      board_is = m.ensures.holds.board;
      reply_is = simp (c.phased.ensures, m.ensures.count_is);
      out_is = m.ensures.out_is;
      silent = λ h. absurd (false≢true h);
    })
