-- `step_answers::answers::written` meets its contract.
use mathlib.Core.Path.{◌≡◌, refl, ap, sym, ◌∙◌}
use mathlib.Core.List.{List}
use Prim.Native.Nat.{ℕ}
use lib.ListN.{length, take}
use Rattle.lent.specs.Lent.{tag_bytes, wrote_all}
use Rattle.writes.specs.ReadBack.{read_back_tags}
use Rattle.board.specs.Board.{Board, board_in, with_asked}
use Rattle.heads.specs.declared.progress.Phase.TheVariants.{ReadBack, RefusedTold, LostTold}
use Rattle.replies.specs.Reply as reply
use Rattle.replies.specs.declared.response.Response.TheVariants as response
use Rattle.replies.specs.declared.response.Outcome.TheVariants as outcome
use Rattle.replies.specs.Worker.{worker, phased, said_in, tell, asks}
use Rattle.replies.proofs.DoneLaws.{done_is}
use Rattle.step_checks.specs.Awaited.{answer}
use Rattle.step_answers.specs.Answers.{written, written_as}
use Rattle.step_answers.proofs.AnswerLaws.{asked_done, told_done, written_lost}
use Rattle.step_answers.proofs.answers.written.Goals as goal

pub returns-in-Written : goal.returns-in-Written
unfolding written
returns-in-Written c =
    let a = c.args in
    let B = board_in a.board.now in
    let k = a.e.progress.tag in
    let W = worker a.e B in
    let asked = take B.table.room (read_back_tags B.table.words k) in
    let through = tell (phased (worker a.e (with_asked B asked)) ReadBack) (reply.read_back (length asked)) (tag_bytes asked) in
    let y = c.put_asked-n in
    let kept : board_in c.ask_read_back.new.b ≡ with_asked B asked = c.ask_read_back.ensures.board in
    let same : (board_in c.ask_read_back.new.b).asked ≡ asked = ap (λ (x : Board). x.asked) kept in
    let count : y.result ≡ length asked = y.ensures.0 ∙ ap (λ (l : List ℕ). length l) same in
    let wrote : y.new.out ≡ wrote_all a.out.now (tag_bytes asked) = y.ensures.1 ∙ ap (λ (l : List ℕ). wrote_all a.out.now (tag_bytes l)) same in
    done_is through (written W (answer a.a)) _ _ _ _ (sym (ap (written_as W) c.in-Written.is))
    (told_done a.e (with_asked B asked) ReadBack (response.ReadBack (length asked)) (tag_bytes asked) _ _ _ _ (c.phased.ensures ∙ ap (λ (n : ℕ). said_in a.e ReadBack (response.ReadBack n)) count) kept wrote refl)

pub returns-in-Refused : goal.returns-in-Refused
unfolding written
returns-in-Refused c =
    let a = c.args in
    let B = board_in a.board.now in
    let k = a.e.progress.tag in
    let r = c.in-Refused in
    let W = worker a.e B in
    done_is (asks W RefusedTold (reply.was_refused k r.error r.message)) (written W (answer a.a)) _ _ _ _ (sym (ap (written_as W) r.is))
    (asked_done a.e B RefusedTold (response.Outcome k (outcome.Refused r.error r.message)) _ _ _ c.phased-in-Refused.ensures refl)

pub returns-in_default : goal.returns-in_default
unfolding written
returns-in_default c =
    let a = c.args in
    let B = board_in a.board.now in
    let k = a.e.progress.tag in
    let W = worker a.e B in
    let lost = written_lost W a.a.kind c.in_default.not-Written c.in_default.not-Refused in
    done_is (asks W LostTold (reply.was_lost k)) (written W (answer a.a)) _ _ _ _ (sym lost)
    (asked_done a.e B LostTold (response.Outcome k outcome.Lost) _ _ _ c.phased-in_default.ensures refl)
