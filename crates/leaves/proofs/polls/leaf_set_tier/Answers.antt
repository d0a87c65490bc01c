-- `leaves::polls::leaf_set_tier` meets its contract.
use mathlib.Core.Path.{sym, ◌∙◌}
use Rattle.leaves.proofs.Laws.{size_passed}
use Rattle.leaves.proofs.polls.leaf_set_tier.Goals as goal

pub set_tier-requires : goal.set_tier-requires
set_tier-requires c = size_passed c.args.mem.now (sym c.size_check-code.ensures ∙ c.if-code-ne0.false)
