-- `leaves::polls::leaf_cycle_tags` meets its contract.
use mathlib.Core.Path.{sym, ◌∙◌}
use Rattle.leaves.proofs.Laws.{size_passed}
use Rattle.leaves.proofs.polls.leaf_cycle_tags.Goals as goal

pub cycle_tags-r-requires : goal.cycle_tags-r-requires
cycle_tags-r-requires c = size_passed c.args.mem.now (sym c.size_check-code.ensures ∙ c.if-code-ne0.false)
