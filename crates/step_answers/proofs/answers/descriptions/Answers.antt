-- `step_answers::answers::descriptions` meets its contract.
use mathlib.Core.Path.{◌≡◌, refl, ap, sym, ◌∙◌}
use mathlib.Core.Bool.{Bool, cond}
use mathlib.Core.List.{List}
use Prim.Native.Nat.{ℕ}
use lib.ListN.{length}
use Rattle.lent.specs.Lent.{tag_bytes, wrote_all}
use Rattle.descriptions.specs.Descriptions.{learnt, learnt_none}
use Rattle.board.specs.Board.{Board, board_in, with_records}
use Rattle.heads.specs.declared.progress.Phase.TheVariants.{InfoTold}
use Rattle.replies.specs.declared.response.Response.TheVariants as response
use Rattle.replies.specs.Worker.{said_in}
use Rattle.step_checks.specs.Awaited.{answer}
use Rattle.step_checks.specs.Kinds.{is_descriptions}
use Rattle.step_checks.proofs.KindLaws.{not_descriptions}
use Rattle.step_answers.specs.Answers.{descriptions}
use Rattle.step_answers.proofs.AnswerLaws.{told_done}
use Rattle.step_answers.proofs.answers.descriptions.Goals as goal
use Rattle.step_answers.proofs.answers.descriptions.Goals.{in-Descriptions, in_default}

pub returns : goal.returns
unfolding descriptions
returns c =
    let a = c.args in
    let B = board_in a.board.now in
    let A = answer a.a in
    let some = learnt A.list B.asked B.table.tags in
    let none = learnt_none B.asked B.table.tags in
    let known = cond (is_descriptions A.kind) some none in
    let y = c.put_asked-n in
    let kept : board_in c.match-a.board ≡ with_records B known =
    elim c.match-a.branch [ in-Descriptions w ↦ ap board_in w.board-is ∙ w.learn.ensures.board ∙ ap (λ (b : Bool). with_records B (cond b some none)) (sym (ap is_descriptions w.in-Descriptions.is)) | in_default w ↦ ap board_in w.board-is ∙ w.learn_none.ensures.board ∙ ap (λ (b : Bool). with_records B (cond b some none)) (sym (not_descriptions A.kind w.in_default.not-Descriptions)) ] in
    let same : (board_in c.match-a.board).asked ≡ B.asked = ap (λ (x : Board). x.asked) kept in
    let count : y.result ≡ length B.asked = y.ensures.0 ∙ ap (λ (l : List ℕ). length l) same in
    let wrote : y.new.out ≡ wrote_all a.out.now (tag_bytes B.asked) = y.ensures.1 ∙ ap (λ (l : List ℕ). wrote_all a.out.now (tag_bytes l)) same in
    told_done a.e (with_records B known) InfoTold (response.Info (length B.asked)) (tag_bytes B.asked) _ _ _ _ (c.phased.ensures ∙ ap (λ (n : ℕ). said_in a.e InfoTold (response.Info n)) count) kept wrote refl
