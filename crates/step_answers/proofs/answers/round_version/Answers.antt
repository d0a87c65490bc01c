-- `step_answers::answers::round_version` meets its contract.
use mathlib.Core.Path.{◌≡◌, ap, sym, ◌∙◌}
use mathlib.Core.Bool.{Bool, true, false, cond}
use Rattle.std.specs.Prelude.{Option, ℕ}
use Rattle.heads.specs.Version.{is_reloaded}
use Rattle.versions.specs.Versions.{version_table}
use Rattle.board.specs.Board.{Board, board_in, with_records}
use Rattle.heads.specs.Link.{with_version}
use Rattle.heads.specs.Stats.{reloaded}
use Rattle.heads.specs.declared.progress.After.TheVariants.{Tail}
use Rattle.heads.specs.declared.progress.Phase.TheVariants.{MetaTold}
use Rattle.engine.specs.Engine.{with_link, with_stats}
use Rattle.engine.specs.declared.Engine.{Engine}
use Rattle.replies.specs.Reply as reply
use Rattle.replies.specs.declared.response.Response.TheVariants as response
use Rattle.replies.specs.Worker.{worker, said_in, asks}
use Rattle.replies.proofs.DoneLaws.{done_is}
use Rattle.cycles.specs.Polling.{writing}
use Rattle.step_checks.specs.Awaited.{answer}
use Rattle.step_answers.specs.Answers.{number_of, round_version}
use Rattle.step_answers.proofs.AnswerLaws.{asked_done}
use Rattle.step_answers.proofs.answers.round_version.Goals as goal

pub shape_of-board-then-is_reloaded : goal.shape_of-board-then-is_reloaded
shape_of-board-then-is_reloaded c = c.check_version.auto.b

pub returns-then-is_reloaded : goal.returns-then-is_reloaded
unfolding round_version
returns-then-is_reloaded c =
    let a = c.args in
    let B = board_in a.board.now in
    let A = answer a.a in
    let list = A.list in
    let number = number_of A.kind in
    let W = worker a.e B in
    let old = a.e.link.version in
    let new : c.number_of-new.result ≡ number = c.number_of-new.ensures in
    let B2 = with_records B (version_table old number false list B.table.words B.table.tags) in
    let kept : board_in c.check_version.new.b ≡ B2 =
    c.check_version.ensures.board ∙ ap (λ (v : Option ℕ). with_records B (version_table old v false list B.table.words B.table.tags)) new in
    let N = worker (with_link a.e (with_version a.e.link number)) B2 in
    let next : c.with_link-next.result ≡ N.head =
    c.with_link-next.ensures ∙ ap (with_link a.e) (c.with_version.ensures ∙ ap (with_version a.e.link) new) in
    let test : is_reloaded old number ≡ true = sym (c.is_reloaded.ensures ∙ ap (is_reloaded old) new) ∙ c.if-is_reloaded.true in
    let E = with_stats N.head (reloaded a.e.stats) in
    let t = a.at in
    let told = asks (worker E B2) MetaTold reply.meta in
    let on = writing N t Tail in
    let said = c.meta.ensures ∙ ap (λ (x : Engine). said_in (with_stats x (reloaded x.stats)) MetaTold response.Meta) next in
    done_is told (round_version W t A) _ _ _ _ (ap (λ (b : Bool). cond b told on) (sym test)) (asked_done E B2 MetaTold response.Meta _ _ _ said kept)

pub returns : goal.returns
unfolding round_version
returns c =
    let a = c.args in
    let B = board_in a.board.now in
    let A = answer a.a in
    let list = A.list in
    let number = number_of A.kind in
    let W = worker a.e B in
    let old = a.e.link.version in
    let new : c.number_of-new.result ≡ number = c.number_of-new.ensures in
    let B2 = with_records B (version_table old number false list B.table.words B.table.tags) in
    let kept : board_in c.check_version.new.b ≡ B2 =
    c.check_version.ensures.board ∙ ap (λ (v : Option ℕ). with_records B (version_table old v false list B.table.words B.table.tags)) new in
    let N = worker (with_link a.e (with_version a.e.link number)) B2 in
    let next : c.with_link-next.result ≡ N.head =
    c.with_link-next.ensures ∙ ap (with_link a.e) (c.with_version.ensures ∙ ap (with_version a.e.link) new) in
    let test : is_reloaded old number ≡ false = sym (c.is_reloaded.ensures ∙ ap (is_reloaded old) new) ∙ c.if-is_reloaded.false in
    let E = with_stats N.head (reloaded a.e.stats) in
    let t = a.at in
    let told = asks (worker E B2) MetaTold reply.meta in
    let on = writing N t Tail in
    let x = c.with_link-next.result in
    let M = board_in c.check_version.new.b in
    let here : writing (worker x M) t Tail ≡ round_version W t A =
    ap (λ (y : Engine). writing (worker y M) t Tail) next ∙ ap (λ (y : Board). writing (worker N.head y) t Tail) kept ∙ ap (λ (b : Bool). cond b told on) (sym test) in
    done_is _ (round_version W t A) _ _ _ _ here c.writing.ensures
