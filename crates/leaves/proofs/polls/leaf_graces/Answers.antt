-- `leaves::polls::leaf_graces` meets its contract.
use mathlib.Core.Path.{sym, ◌∙◌}
use Rattle.leaves.proofs.Laws.{size_passed}
use Rattle.leaves.proofs.polls.leaf_graces.Goals as goal

pub graces_of-requires : goal.graces_of-requires
graces_of-requires c = size_passed c.args.mem.now (sym c.size_check-code.ensures ∙ c.if-code-ne0.false)
