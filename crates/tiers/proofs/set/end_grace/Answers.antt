-- `tiers::set::end_grace` meets its contract.
use borrow.Author.Rules.{rules}
use Rattle.tiers.specs.Tiers.{grace_ended}
use Rattle.tiers.proofs.set.end_grace.Goals as goal

pub returns-in-Some : goal.returns-in-Some
unfolding grace_ended
returns-in-Some c = search rules

pub returns-in_default : goal.returns-in_default
unfolding grace_ended
returns-in_default c = search rules
