-- `replies::losing::disconnected` meets its contract.
use mathlib.Core.Path.{◌≡◌, sym, ◌∙◌}
use mathlib.Core.Bool.{true, false}
use Rattle.heads.specs.Link.{is_state}
use Rattle.heads.specs.declared.link.State.TheVariants.{Disconnected}
use Rattle.replies.specs.Worker.{worker}
use Rattle.replies.specs.Losing.{disconnected, backing_off}
use Rattle.replies.proofs.DoneLaws.{quiet_is}
use Rattle.replies.proofs.losing.disconnected.Goals as goal

pub returns-then-is_state : goal.returns-then-is_state
unfolding disconnected
returns-then-is_state c B =
    let e = c.args.e in
    let test : is_state e.link Disconnected ≡ true = sym c.is_state.ensures ∙ c.if-is_state.true in
    quiet_is (backing_off (worker e B)) (disconnected (worker e B)) _ B (simp test) (c.backing_off.ensures B)

pub returns : goal.returns
unfolding disconnected
returns c B =
    let e = c.args.e in
    let test : is_state e.link Disconnected ≡ false = sym c.is_state.ensures ∙ c.if-is_state.false in
    record {
      head_is = simp (test, c.phased.ensures, c.with_link-next.ensures, c.with_state.ensures);
      reply_is = simp (test, c.phased.ensures);
      board_kept = simp test;
      nothing = simp test;
    }
