-- `tiers::grace::set_graced` meets its contract.
use mathlib.Core.Path.{ap, sym, ◌∙◌}
use Rattle.std.specs.Prelude.{is_some}
use Rattle.tiers.specs.Tiers.{set_tier}
use borrow.Author.Tests.{eq-eqb, ne_eqb}
use Rattle.tiers.proofs.grace.set_graced.Goals as goal
use Rattle.tiers.proofs.grace.set_graced.Goals.{then-tier-eq1-via-then-tier-eq1, then-tier-eq1-via-else-tier-eq1+then-tier-eq2}

pub returns-then-tier-eq1 : goal.returns-then-tier-eq1
unfolding set_tier
returns-then-tier-eq1 c = elim c.then-tier-eq1.branch [
  | then-tier-eq1-via-then-tier-eq1 w ↦ simp (eq-eqb _ _ w.if-tier-eq1.true) c.set.ensures
  | then-tier-eq1-via-else-tier-eq1+then-tier-eq2 w ↦ simp (ne_eqb _ _ w.if-tier-eq1.false, eq-eqb _ _ w.if-tier-eq2.true) c.set.ensures
]

pub returns-then-tier_of-eq1 : goal.returns-then-tier_of-eq1
unfolding set_tier
returns-then-tier_of-eq1 c = simp (ne_eqb _ _ c.if-tier-eq1.false, ne_eqb _ _ c.if-tier-eq2.false, c.requires.graced, sym c.tier_of.ensures ∙ c.if-tier_of-eq1.true) c.enter_grace.ensures

pub returns-in-Some : goal.returns-in-Some
unfolding set_tier
returns-in-Some c = simp (ne_eqb _ _ c.if-tier-eq1.false, ne_eqb _ _ c.if-tier-eq2.false, c.requires.graced, ne_eqb _ _ (λ e. c.if-tier_of-eq1.false (c.tier_of.ensures ∙ e)), ap is_some (sym c.grace_of.ensures ∙ c.in-Some.is)) c.change_grace.ensures

pub returns-in-None : goal.returns-in-None
unfolding set_tier
returns-in-None c = simp (ne_eqb _ _ c.if-tier-eq1.false, ne_eqb _ _ c.if-tier-eq2.false, c.requires.graced, ne_eqb _ _ (λ e. c.if-tier_of-eq1.false (c.tier_of.ensures ∙ e)), ap is_some (sym c.grace_of.ensures ∙ c.in-None.is)) c.set-in-None.ensures
