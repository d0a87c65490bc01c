-- `checks::calls::clock_check` meets its contract.
use mathlib.Core.Path.{sym, ◌∙◌}
use Rattle.checks.specs.Calls.{clock_check}
use Rattle.checks.proofs.calls.clock_check.Goals as goal

pub returns-then-not-is_clock : goal.returns-then-not-is_clock
unfolding clock_check
returns-then-not-is_clock c _ = simp (sym c.is_clock.ensures ∙ c.if-not-is_clock.true)

pub returns-then-clock-e : goal.returns-then-clock-e
unfolding clock_check
returns-then-clock-e c _ = simp (sym c.is_clock.ensures ∙ c.if-not-is_clock.false, c.if-clock-e.true)

pub returns : goal.returns
unfolding clock_check
returns c _ = simp (sym c.is_clock.ensures ∙ c.if-not-is_clock.false, c.if-clock-e.false)
