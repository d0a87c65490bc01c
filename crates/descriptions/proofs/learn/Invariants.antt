use mathlib.Core.Path.{◌≡◌}
use mathlib.Core.List.{List}
use Prim.Native.Nat.{ℕ}
use lib.ListN.{length, take, drop}
use Rattle.board.specs.Layout.{IsBoard}
use Rattle.board.specs.Board.{board_in, with_records}
use Rattle.descriptions.specs.Descriptions.{found_count, found_in, known_from, learnt}
use Rattle.descriptions.proofs.learn.Given as goal

-- the tags that an answer covers
abbrev covered : List ℕ → List ℕ → List ℕ
covered b found = take (found_count found) (board_in b).asked

abbrev pub invariant-loop-i : goal.invariant-loop-i
invariant-loop-i l =
    (l.n ≡ length (covered l.initial.b l.found)) × ((length l.b ≡ length l.initial.b) × (IsBoard l.b
    × (with_records (board_in l.b) (known_from (found_in l.found) l.i (drop l.i (covered l.initial.b l.found)) (board_in l.b).table.tags) ≡ with_records (board_in l.initial.b) (learnt l.found (board_in l.initial.b).asked (board_in l.initial.b).table.tags))))
