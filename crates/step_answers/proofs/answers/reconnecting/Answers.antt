-- `step_answers::answers::reconnecting` meets its contract.
use mathlib.Core.Path.{◌≡◌, refl, ap, sym, ◌∙◌}
use mathlib.Core.Bool.{Bool, true, false, cond}
use Rattle.board.specs.Board.{board_in}
use Rattle.heads.specs.Link.{is_state}
use Rattle.heads.specs.Stats.{reconnected}
use Rattle.heads.specs.declared.link.State.TheVariants.{Connecting}
use Rattle.heads.specs.declared.progress.Phase.TheVariants.{ConnectingTold}
use Rattle.engine.specs.Engine.{with_link, with_stats}
use Rattle.engine.specs.declared.Engine.{Engine}
use Rattle.replies.specs.Reply as reply
use Rattle.replies.specs.declared.response.Response.TheVariants as response
use Rattle.replies.specs.Worker.{worker, said_in, asks, stated}
use Rattle.replies.specs.Losing.{top}
use Rattle.replies.proofs.DoneLaws.{done_is}
use Rattle.step_answers.specs.Answers.{reconnecting}
use Rattle.step_answers.proofs.AnswerLaws.{asked_done}
use Rattle.step_answers.proofs.answers.reconnecting.Goals as goal

pub returns-then-is_state : goal.returns-then-is_state
unfolding reconnecting
returns-then-is_state c =
    let a = c.args in
    let B = board_in a.board.now in
    let W = worker a.e B in
    let N = worker (with_stats a.e (reconnected a.e.stats)) B in
    let next : c.with_stats-tallied.result ≡ N.head = c.with_stats-tallied.ensures ∙ ap (with_stats a.e) c.reconnected.ensures in
    let test : is_state a.e.link Connecting ≡ true = sym c.is_state.ensures ∙ c.if-is_state.true in
    let here : top N ≡ reconnecting W = ap (λ (b : Bool). cond b (top N) (asks (stated N Connecting) ConnectingTold (reply.status Connecting))) (sym test) in
    done_is _ (reconnecting W) _ _ _ _ (ap (λ (x : Engine). top (worker x B)) next ∙ here) c.top.ensures

pub returns : goal.returns
unfolding reconnecting
returns c =
    let a = c.args in
    let B = board_in a.board.now in
    let W = worker a.e B in
    let N = worker (with_stats a.e (reconnected a.e.stats)) B in
    let next : c.with_stats-tallied.result ≡ N.head = c.with_stats-tallied.ensures ∙ ap (with_stats a.e) c.reconnected.ensures in
    let test : is_state a.e.link Connecting ≡ false = sym c.is_state.ensures ∙ c.if-is_state.false in
    let E = (stated N Connecting).head in
    let head : c.with_link-next.result ≡ E =
    c.with_link-next.ensures ∙ ap (λ (x : Engine). with_link x c.with_state.result) next ∙ ap (with_link N.head) c.with_state.ensures in
    let said = c.phased.ensures ∙ ap (λ (x : Engine). said_in x ConnectingTold (response.Status Connecting)) head in
    done_is (asks (stated N Connecting) ConnectingTold (reply.status Connecting)) (reconnecting W) _ _ _ _
    (ap (λ (b : Bool). cond b (top N) (asks (stated N Connecting) ConnectingTold (reply.status Connecting))) (sym test))
    (asked_done E B ConnectingTold (response.Status Connecting) _ _ _ said refl)
