use mathlib.Core.Path.{◌≡◌}
use lib.ListN.{length, drop}
use Rattle.tags.specs.Lists.{list_in}
use Rattle.rounds.specs.Graces.{run_out}
use Rattle.board.specs.Layout.{IsBoard}
use Rattle.board.specs.Board.{board_in, with_table}
use Rattle.rounds.proofs.graces.run_out.Given as goal

abbrev pub invariant-loop-i : goal.invariant-loop-i
invariant-loop-i l = IsBoard l.b × ((length l.b ≡ length l.initial.b) × (with_table (board_in l.initial.b) (run_out (board_in l.initial.b).table (list_in l.list)) ≡ with_table (board_in l.b) (run_out (board_in l.b).table (drop l.i (list_in l.list)))))
