-- `leaves::polls::leaf_asked` meets its contract.
use mathlib.Core.Path.{sym, ◌∙◌}
use Rattle.leaves.proofs.Laws.{size_passed}
use Rattle.leaves.proofs.polls.leaf_asked.Goals as goal

pub asked_of-requires : goal.asked_of-requires
asked_of-requires c = size_passed c.args.mem.now (sym c.size_check-code.ensures ∙ c.if-code-ne0.false)
