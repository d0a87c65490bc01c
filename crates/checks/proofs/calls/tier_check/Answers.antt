-- `checks::calls::tier_check` meets its contract.
use mathlib.Core.Path.{ap, sym, ◌∙◌}
use Rattle.std.specs.Prelude.{⊤, Result}
use Rattle.refusals.specs.Refusals.{code}
use Rattle.refusals.specs.declared.Refusal.{Refusal}
use borrow.Author.Tests.{le-leb, lt-leb, le-ltb, lt-ltb}
use Rattle.checks.specs.Calls.{tier_check}
use Rattle.checks.proofs.CallLaws.{first_refusal, next}
use Rattle.checks.proofs.calls.tier_check.Goals as goal

pub returns-in-Err : goal.returns-in-Err
unfolding tier_check
returns-in-Err c board = first_refusal c.in-Err.refusal _ _ (ap (λ (x : Result ⊤ Refusal). code x) (sym c.in-Err.is) ∙ c.clock_check.ensures board)

pub returns-then-e-tag : goal.returns-then-e-tag
unfolding tier_check
returns-then-e-tag c board = next _ _ _ (ap (λ (x : Result ⊤ Refusal). code x) (sym c.in_default.is) ∙ c.clock_check.ensures board) (simp (le-leb _ _ c.if-e-tag.true))

pub returns-then-tier-gt3 : goal.returns-then-tier-gt3
unfolding tier_check
returns-then-tier-gt3 c board = next _ _ _ (ap (λ (x : Result ⊤ Refusal). code x) (sym c.in_default.is) ∙ c.clock_check.ensures board) (simp (lt-leb _ _ c.if-e-tag.false, lt-ltb _ _ c.if-tier-gt3.true))

pub returns : goal.returns
unfolding tier_check
returns c board = next _ _ _ (ap (λ (x : Result ⊤ Refusal). code x) (sym c.in_default.is) ∙ c.clock_check.ensures board) (simp (lt-leb _ _ c.if-e-tag.false, le-ltb _ _ c.if-tier-gt3.false))
