-- `checks::calls::write_check` meets its contract.
use mathlib.Core.Path.{ap, sym, ◌∙◌}
use borrow.Author.Tests.{le-leb, lt-leb}
use lib.Dec.{leb}
use Rattle.checks.specs.Calls.{write_check}
use Rattle.checks.proofs.calls.write_check.Goals as goal

pub returns-then-e-tag : goal.returns-then-e-tag
unfolding write_check
returns-then-e-tag c =
    simp (le-leb _ _ c.if-e-tag.true)

pub returns-then-not-is_state : goal.returns-then-not-is_state
unfolding write_check
returns-then-not-is_state c =
    simp (
      lt-leb _ _ c.if-e-tag.false,
      sym c.is_state.ensures ∙ c.if-not-is_state.true,
    )

pub returns-then-queued-ge32 : goal.returns-then-queued-ge32
unfolding write_check
returns-then-queued-ge32 c =
    simp (
      lt-leb _ _ c.if-e-tag.false,
      sym c.is_state.ensures ∙ c.if-not-is_state.false,
      ap (leb 32) (sym c.queued.ensures) ∙ le-leb _ _ c.if-queued-ge32.true,
    )

pub returns-then-is_finite_value : goal.returns-then-is_finite_value
unfolding write_check
returns-then-is_finite_value c =
    simp (
      lt-leb _ _ c.if-e-tag.false,
      sym c.is_state.ensures ∙ c.if-not-is_state.false,
      ap (leb 32) (sym c.queued.ensures) ∙ lt-leb _ _ c.if-queued-ge32.false,
      sym c.is_finite_value.ensures ∙ c.if-is_finite_value.true,
    )

pub returns : goal.returns
unfolding write_check
returns c =
    simp (
      lt-leb _ _ c.if-e-tag.false,
      sym c.is_state.ensures ∙ c.if-not-is_state.false,
      ap (leb 32) (sym c.queued.ensures) ∙ lt-leb _ _ c.if-queued-ge32.false,
      sym c.is_finite_value.ensures ∙ c.if-is_finite_value.false,
    )
