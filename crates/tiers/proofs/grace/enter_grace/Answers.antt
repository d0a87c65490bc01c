-- `tiers::grace::enter_grace` meets its contract.
use Rattle.tiers.specs.Tiers.{enter_grace}
use Rattle.tiers.proofs.grace.enter_grace.Goals as goal

pub returns : goal.returns
unfolding enter_grace
returns c = rw c.put.ensures.board at c.push_grace.ensures
