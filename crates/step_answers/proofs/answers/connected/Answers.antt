-- `step_answers::answers::connected` meets its contract.
use mathlib.Core.Path.{◌≡◌, ap, sym, ◌∙◌}
use mathlib.Core.Bool.{true, false}
use Rattle.heads.specs.Link.{is_state, with_attempt}
use Rattle.heads.specs.declared.link.State.TheVariants.{Connected}
use Rattle.engine.specs.Engine.{with_link}
use Rattle.replies.specs.Worker.{worker}
use Rattle.replies.proofs.DoneLaws.{quiet_is}
use Rattle.cycles.specs.Polling.{polls}
use Rattle.step_answers.specs.Answers.{connected}
use Rattle.step_answers.proofs.answers.connected.Goals as goal

pub returns-then-is_state : goal.returns-then-is_state
unfolding connected
returns-then-is_state c B =
    let e = c.args.e in
    let test : is_state e.link Connected ≡ true = sym c.is_state.ensures ∙ c.if-is_state.true in
    let next : c.with_link.result ≡ with_link e (with_attempt e.link 0) =
    c.with_link.ensures ∙ ap (with_link e) c.with_attempt-link.ensures in
    quiet_is (polls (worker c.with_link.result B)) (connected (worker e B)) _ B (simp (next, test)) (c.polls.ensures B)

pub returns : goal.returns
unfolding connected
returns c B =
    let e = c.args.e in
    let test : is_state e.link Connected ≡ false = sym c.is_state.ensures ∙ c.if-is_state.false in
    record {
      head_is = simp (test, c.phased.ensures, c.with_link-next.ensures, c.with_state.ensures, c.with_attempt-link.ensures);
      reply_is = simp (test, c.phased.ensures);
      board_kept = simp test;
      nothing = simp test;
    }
