-- `tiers::grace::set_tier` meets its contract.
use Rattle.tiers.specs.Tiers.{set_tier}
use Rattle.tiers.proofs.Laws.{set-at_once}
use Rattle.board.specs.Board.{board_in}
use Rattle.tiers.proofs.grace.set_tier.Goals as goal

pub returns-then-grace : goal.returns-then-grace
unfolding set_tier
returns-then-grace c =
    let a = c.args in
    let T = (board_in a.b.now).table in
    rw (set-at_once T a.k a.tier a.grace a.clock c.if-grace.true) c.set.ensures
