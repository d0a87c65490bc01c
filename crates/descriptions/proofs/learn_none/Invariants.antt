use mathlib.Core.Path.{◌≡◌}
use Prim.Native.Nat.{ℕ}
use lib.ListN.{length, drop}
use Rattle.table.specs.declared.tag.Description.{Description}
use Rattle.table.specs.declared.tag.Description.TheVariants.{Nothing}
use Rattle.board.specs.Layout.{IsBoard}
use Rattle.board.specs.Board.{board_in, with_records}
use Rattle.descriptions.specs.Descriptions.{known_from, learnt_none}
use Rattle.descriptions.proofs.learn_none.Given as goal

abbrev none : ℕ → Description
none i = Nothing

abbrev pub invariant-loop-i : goal.invariant-loop-i
invariant-loop-i l =
    (length l.b ≡ length l.initial.b) × (IsBoard l.b
    × (with_records (board_in l.b) (known_from none l.i (drop l.i (board_in l.initial.b).asked) (board_in l.b).table.tags) ≡ with_records (board_in l.initial.b) (learnt_none (board_in l.initial.b).asked (board_in l.initial.b).table.tags)))
