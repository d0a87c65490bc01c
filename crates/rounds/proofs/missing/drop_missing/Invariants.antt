use mathlib.Core.Path.{◌≡◌}
use mathlib.Core.Bool.{Bool, not}
use mathlib.Core.List.{List}
use Prim.Native.Nat.{ℕ}
use lib.Ieee.{Float}
use lib.ListN.{length, take}
use Rattle.lists.specs.Keep.{keep}
use Rattle.tags.specs.Lists.{list_in}
use Rattle.board.specs.Board.{Board, Holds, board_in, tag_at, with_asked}
use Rattle.rounds.specs.Missing.{is_held_back}
use Rattle.rounds.proofs.missing.drop_missing.Given as goal

-- the test that the loop collects by, and what it has collected of a list
abbrev test : Board → Float → ℕ → Bool
test B clock k = not (is_held_back (tag_at B.table k) clock)

abbrev kept : Board → Float → List ℕ → List ℕ
kept B clock xs = take B.table.room (keep (test B clock) xs)

abbrev pub invariant-loop-i : goal.invariant-loop-i
invariant-loop-i l =
    (length l.b ≡ length l.initial.b) × Holds l.b (with_asked (board_in l.initial.b) (kept (board_in l.initial.b) l.clock (take l.i (list_in l.wanted))))
