use mathlib.Core.Path.{◌≡◌}
use lib.ListN.{length, drop}
use Rattle.board.specs.Layout.{IsBoard}
use Rattle.board.specs.Board.{board_in, with_table}
use Rattle.panel.specs.Panel.{tags_of, tiers_of, loaded, loaded_list}
use Rattle.panel.proofs.load.load_panel.Given as goal

abbrev pub invariant-loop-i : goal.invariant-loop-i
invariant-loop-i l =
    IsBoard l.b × ((length l.b ≡ length l.initial.b)
    × (with_table (board_in l.initial.b) (loaded_list (board_in l.initial.b).table l.list l.grace l.clock) ≡ with_table (board_in l.b) (loaded (board_in l.b).table (drop l.i (tags_of l.list)) (drop l.i (tiers_of l.list)) l.grace l.clock)))
