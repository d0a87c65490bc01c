use mathlib.Core.Path.{◌≡◌}
use mathlib.Core.Bool.{Bool}
use Prim.Native.Nat.{ℕ}
use lib.ListN.{length, take}
use Rattle.lists.specs.Keep.{keep, up_to}
use Rattle.board.specs.Board.{Board, Holds, board_in, tag_at, with_asked}
use Rattle.descriptions.specs.Descriptions.{is_asked}
use Rattle.descriptions.proofs.ask_wanted.Given as goal

-- the test that the loop collects by
abbrev test : Board → ℕ → Bool
test B k = is_asked (tag_at B.table k)

-- the board B once the tags below k of n were looked at
abbrev looked : Board → ℕ → ℕ → Board
looked B n k = with_asked B (keep (test B) (take k (up_to n)))

abbrev pub invariant-loop-k : goal.invariant-loop-k
invariant-loop-k l = (length l.b ≡ length l.initial.b) × Holds l.b (looked (board_in l.initial.b) l.n l.k)
