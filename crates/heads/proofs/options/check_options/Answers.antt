-- `heads::options::check_options` meets its contract.
use mathlib.Core.Path.{sym, ◌∙◌}
use Rattle.heads.specs.Options.{options_check}
use Rattle.heads.proofs.options.check_options.Goals as goal

pub returns-then-not-is_cycle : goal.returns-then-not-is_cycle
unfolding options_check
returns-then-not-is_cycle c = rw (sym c.is_cycle.ensures ∙ c.if-not-is_cycle.true)

pub returns-then-not-is_span : goal.returns-then-not-is_span
unfolding options_check
returns-then-not-is_span c = rw (sym c.is_cycle.ensures ∙ c.if-not-is_cycle.false, sym c.is_span.ensures ∙ c.if-not-is_span.true)

pub returns-then-not-is_span-2 : goal.returns-then-not-is_span-2
unfolding options_check
returns-then-not-is_span-2 c = rw (sym c.is_cycle.ensures ∙ c.if-not-is_cycle.false, sym c.is_span.ensures ∙ c.if-not-is_span.false, sym c.is_span-2.ensures ∙ c.if-not-is_span-2.true)

pub returns : goal.returns
unfolding options_check
returns c = rw (sym c.is_cycle.ensures ∙ c.if-not-is_cycle.false, sym c.is_span.ensures ∙ c.if-not-is_span.false, sym c.is_span-2.ensures ∙ c.if-not-is_span-2.false)
