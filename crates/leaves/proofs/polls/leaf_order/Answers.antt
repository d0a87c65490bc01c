-- `leaves::polls::leaf_order` meets its contract.
use mathlib.Core.Path.{sym, ◌∙◌}
use Rattle.leaves.proofs.Laws.{size_passed}
use Rattle.leaves.proofs.polls.leaf_order.Goals as goal

pub order_of-requires : goal.order_of-requires
order_of-requires c = size_passed c.args.mem.now (sym c.size_check-code.ensures ∙ c.if-code-ne0.false)
