-- `step_answers::answers::back_applied` meets its contract.
use mathlib.Core.Path.{◌≡◌, refl, ap, sym, ◌∙◌, subst}
use mathlib.Core.Bool.{Bool, true, false, cond}
use Prim.Native.Nat.{ℕ}
use lib.Dec.{eqb}
use lib.ListN.{length}
use lib.IntN.{ℤ}
use mir.Syntax.{w64}
use mir.Val.{SFits}
use borrow.Author.Rules.{rules}
use mir.ValLaws.{to_z-of_z}
use Rattle.board.specs.Board.{Board, board_in}
use Rattle.lent.specs.Lent.{cell_bytes}
use Rattle.readings.specs.Changes.{Changing, applied_to, changes_in}
use Rattle.heads.specs.declared.progress.Phase.TheVariants.{BackTold}
use Rattle.replies.specs.Reply as reply
use Rattle.replies.specs.declared.response.Response.TheVariants as response
use Rattle.replies.specs.Worker.{worker, phased, said_in, tell}
use Rattle.replies.specs.Losing.{is_empty}
use Rattle.replies.proofs.DoneLaws.{done_is}
use Rattle.cycles.specs.Polling.{writing}
use Rattle.step_answers.specs.Answers.{back_applied}
use Rattle.step_answers.proofs.AnswerLaws.{empty_is, no_changes, done_from, told_done}
use borrow.Author.Tests.{eq-eqb, ne_eqb}
use Rattle.step_answers.proofs.answers.back_applied.Goals as goal

pub returns-then-n-eq0 : goal.returns-then-n-eq0
unfolding back_applied
returns-then-n-eq0 c =
    let a = c.args in
    let B = board_in a.board.now in
    let W = worker a.e B in
    let t = a.at in
    let fit : SFits w64 a.at.wall = search rules in
    let C = applied_to B B.back a.at.clock a.at.wall false in
    let y = c.apply_back-n in
    let made : Changing C y.result y.new.b a.out.now y.new.out =
    subst (λ (z : ℤ). Changing (applied_to B B.back a.at.clock z false) y.result y.new.b a.out.now y.new.out) (to_z-of_z w64 a.at.wall fit) y.ensures in
    let N = worker a.e C.board in
    let test : is_empty C.changes ≡ true = sym (empty_is C.changes) ∙ ap (λ (n : ℕ). eqb n 0) (sym made.count_is) ∙ eq-eqb _ _ c.if-n-eq0.true in
    let after = a.e.progress.after in
    let on = writing N t after in
    let told = tell (phased N BackTold) (reply.values (length C.changes)) (cell_bytes (changes_in C.board C.changes)) in
    let M = board_in y.new.b in
    let here : writing (worker a.e M) t after ≡ back_applied W t =
    ap (λ (x : Board). writing (worker a.e x) t after) made.holds.board ∙ ap (λ (b : Bool). cond b on told) (sym test) in
    done_from (back_applied W t) _ _ _ _ _ (no_changes C.board C.changes _ _ test made.out_is)
    (done_is _ (back_applied W t) _ _ _ _ here c.writing.ensures)

pub returns : goal.returns
unfolding back_applied
returns c =
    let a = c.args in
    let B = board_in a.board.now in
    let W = worker a.e B in
    let t = a.at in
    let fit : SFits w64 a.at.wall = search rules in
    let C = applied_to B B.back a.at.clock a.at.wall false in
    let y = c.apply_back-n in
    let made : Changing C y.result y.new.b a.out.now y.new.out =
    subst (λ (z : ℤ). Changing (applied_to B B.back a.at.clock z false) y.result y.new.b a.out.now y.new.out) (to_z-of_z w64 a.at.wall fit) y.ensures in
    let N = worker a.e C.board in
    let test : is_empty C.changes ≡ false = sym (empty_is C.changes) ∙ ap (λ (n : ℕ). eqb n 0) (sym made.count_is) ∙ ne_eqb _ _ c.if-n-eq0.false in
    let on = writing N t a.e.progress.after in
    let told = tell (phased N BackTold) (reply.values (length C.changes)) (cell_bytes (changes_in C.board C.changes)) in
    done_is told (back_applied W t) _ _ _ _ (ap (λ (b : Bool). cond b on told) (sym test))
    (told_done a.e C.board BackTold (response.Values (length C.changes)) (cell_bytes (changes_in C.board C.changes)) _ _ _ _ (c.phased.ensures ∙ ap (λ (n : ℕ). said_in a.e BackTold (response.Values n)) made.count_is) made.holds.board made.out_is refl)
