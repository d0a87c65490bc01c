-- `tiers::set::order_set` meets its contract.
use borrow.Author.Rules.{rules}
use Rattle.tiers.specs.Tiers.{order_set}
use Rattle.tiers.proofs.set.order_set.Goals as goal

pub returns-in-0-eq0 : goal.returns-in-0-eq0
unfolding order_set
returns-in-0-eq0 c = search rules

pub returns-in-0-default : goal.returns-in-0-default
unfolding order_set
returns-in-0-default c = search rules

pub returns-in_default-eq0 : goal.returns-in_default-eq0
unfolding order_set
returns-in_default-eq0 c = search rules

pub returns-in_default : goal.returns-in_default
unfolding order_set
returns-in_default c = search rules
