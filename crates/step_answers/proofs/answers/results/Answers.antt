-- `step_answers::answers::results` meets its contract.
use mathlib.Core.Path.{◌≡◌, refl, ap, sym, ◌∙◌, subst}
use mathlib.Core.Bool.{Bool, true, false, cond}
use Prim.Native.Nat.{ℕ}
use lib.Dec.{eqb}
use lib.ListN.{length}
use lib.IntN.{ℤ}
use mir.Syntax.{w64}
use mir.Val.{SFits}
use borrow.Author.Rules.{rules}
use mir.ValLaws.{to_z-of_z}
use Rattle.board.specs.Board.{Board, board_in}
use Rattle.lent.specs.Lent.{cell_bytes}
use Rattle.readings.specs.Changes.{Changing, applied_to, changes_in}
use Rattle.heads.specs.declared.progress.Phase.TheVariants.{ValuesTold}
use Rattle.replies.specs.Reply as reply
use Rattle.replies.specs.declared.response.Response.TheVariants as response
use Rattle.replies.specs.Worker.{worker, phased, said_in, tell}
use Rattle.replies.specs.Losing.{is_empty, down}
use Rattle.replies.proofs.DoneLaws.{done_is}
use Rattle.cycles.specs.Polling.{reading}
use Rattle.step_checks.specs.Awaited.{answer}
use Rattle.step_checks.specs.Kinds.{is_lost}
use Rattle.step_checks.proofs.KindLaws.{not_lost}
use Rattle.step_answers.specs.Answers.{results}
use Rattle.step_answers.proofs.AnswerLaws.{empty_is, no_changes, done_from, told_done}
use borrow.Author.Tests.{eq-eqb, ne_eqb}
use Rattle.step_answers.proofs.answers.results.Goals as goal

pub returns-in-Lost : goal.returns-in-Lost
unfolding results
returns-in-Lost c =
    let a = c.args in
    let B = board_in a.board.now in
    let A = answer a.a in
    let list = A.list in
    let W = worker a.e B in
    let t = a.at in
    let C = applied_to B list a.e.progress.start a.at.wall true in
    let N = worker a.e C.board in
    let told = tell (phased N ValuesTold) (reply.values (length C.changes)) (cell_bytes (changes_in C.board C.changes)) in
    let on = cond (is_empty C.changes) (reading N t) told in
    let test : is_lost A.kind ≡ true = ap is_lost c.in-Lost.is in
    done_is (down W) (results W t A) _ _ _ _ (ap (λ (b : Bool). cond b (down W) on) (sym test)) c.down.ensures

pub returns-then-n-eq0 : goal.returns-then-n-eq0
unfolding results
returns-then-n-eq0 c =
    let a = c.args in
    let B = board_in a.board.now in
    let A = answer a.a in
    let list = A.list in
    let W = worker a.e B in
    let t = a.at in
    let fit : SFits w64 a.at.wall = search rules in
    let C = applied_to B list a.e.progress.start a.at.wall true in
    let y = c.apply_polled-n in
    let made : Changing C y.result y.new.board a.out.now y.new.out =
    subst (λ (z : ℤ). Changing (applied_to B list a.e.progress.start z true) y.result y.new.board a.out.now y.new.out) (to_z-of_z w64 a.at.wall fit) y.ensures in
    let N = worker a.e C.board in
    let told = tell (phased N ValuesTold) (reply.values (length C.changes)) (cell_bytes (changes_in C.board C.changes)) in
    let on = cond (is_empty C.changes) (reading N t) told in
    let test : is_lost A.kind ≡ false = not_lost A.kind c.in_default.not-Lost in
    let test2 : is_empty C.changes ≡ true = sym (empty_is C.changes) ∙ ap (λ (n : ℕ). eqb n 0) (sym made.count_is) ∙ eq-eqb _ _ c.if-n-eq0.true in
    let M = board_in y.new.board in
    let here : reading (worker a.e M) t ≡ results W t A =
    ap (λ (x : Board). reading (worker a.e x) t) made.holds.board ∙ ap (λ (b : Bool). cond b (reading N t) told) (sym test2) ∙ ap (λ (b : Bool). cond b (down W) on) (sym test) in
    done_from (results W t A) _ _ _ _ _ (no_changes C.board C.changes _ _ test2 made.out_is)
    (done_is _ (results W t A) _ _ _ _ here c.reading.ensures)

pub returns : goal.returns
unfolding results
returns c =
    let a = c.args in
    let B = board_in a.board.now in
    let A = answer a.a in
    let list = A.list in
    let W = worker a.e B in
    let t = a.at in
    let fit : SFits w64 a.at.wall = search rules in
    let C = applied_to B list a.e.progress.start a.at.wall true in
    let y = c.apply_polled-n in
    let made : Changing C y.result y.new.board a.out.now y.new.out =
    subst (λ (z : ℤ). Changing (applied_to B list a.e.progress.start z true) y.result y.new.board a.out.now y.new.out) (to_z-of_z w64 a.at.wall fit) y.ensures in
    let N = worker a.e C.board in
    let told = tell (phased N ValuesTold) (reply.values (length C.changes)) (cell_bytes (changes_in C.board C.changes)) in
    let on = cond (is_empty C.changes) (reading N t) told in
    let test : is_lost A.kind ≡ false = not_lost A.kind c.in_default.not-Lost in
    let test2 : is_empty C.changes ≡ false = sym (empty_is C.changes) ∙ ap (λ (n : ℕ). eqb n 0) (sym made.count_is) ∙ ne_eqb _ _ c.if-n-eq0.false in
    done_is told (results W t A) _ _ _ _ (ap (λ (b : Bool). cond b (reading N t) told) (sym test2) ∙ ap (λ (b : Bool). cond b (down W) on) (sym test))
    (told_done a.e C.board ValuesTold (response.Values (length C.changes)) (cell_bytes (changes_in C.board C.changes)) _ _ _ _ (c.phased.ensures ∙ ap (λ (n : ℕ). said_in a.e ValuesTold (response.Values n)) made.count_is) made.holds.board made.out_is refl)
