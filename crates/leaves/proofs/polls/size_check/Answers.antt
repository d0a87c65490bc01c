-- `leaves::polls::size_check` meets its contract.
use mathlib.Core.Path.{sym, ◌∙◌}
use mathlib.Core.Bool.{true, false}
use Rattle.leaves.proofs.Laws.{size_checked}
use Rattle.leaves.proofs.polls.size_check.Goals as goal

pub returns-then-is_board_size : goal.returns-then-is_board_size
returns-then-is_board_size c = size_checked c.args.mem.now true (sym c.if-is_board_size.true ∙ c.is_board_size.ensures)

pub returns-else-is_board_size : goal.returns-else-is_board_size
returns-else-is_board_size c = size_checked c.args.mem.now false (sym c.if-is_board_size.false ∙ c.is_board_size.ensures)
