use mathlib.Core.Path.{◌≡◌}
use mathlib.Core.Bool.{Bool}
use mathlib.Core.List.{List}
use Prim.Native.Nat.{ℕ}
use lib.ListN.{length, drop}
use Rattle.tags.specs.Lists.{list_in}
use Rattle.board.specs.Layout.{IsBoard}
use Rattle.board.specs.Board.{Board, board_in, with_groups}
use Rattle.rounds.specs.Due.{recorded_due, none_seen}
use lib.Ieee.{Float}
use Rattle.rounds.proofs.due.record_due.Given as goal

-- the board once the tags of a list are recorded
abbrev recorded : Board → Float → List Bool → List ℕ → Board
recorded B clock seen list = with_groups B (recorded_due B.table.tags clock seen B.groups list)

abbrev pub invariant-loop-i : goal.invariant-loop-i
invariant-loop-i l =
    IsBoard l.b × ((length l.b ≡ length l.initial.b) × (recorded (board_in l.initial.b) l.clock none_seen (list_in l.list) ≡ recorded (board_in l.b) l.clock l.seen (drop l.i (list_in l.list))))
