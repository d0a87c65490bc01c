-- Rule 7: what readings make of a board, and the changes told.
use Rattle.std.specs.Prelude.{Bool, List, ◌≡◌, ℕ, Float, ℤ, length}
use Rattle.lent.specs.Lent.{cell_bytes, records, wrote_all}
use Rattle.lent.specs.Changes.{change_cells}
use Rattle.board.specs.Board.{Board, Holds, with_records}
use Rattle.readings.specs.Listed.{apply_all, in_tag_order}

-- Rule 7: a change is the tag and the eight cells of its published entry
abbrev pub changes_in : Board → List ℕ → List ℕ
changes_in B changes = records (change_cells B.table.tags) changes

-- Rule 7: what readings come to: the board, and the tags whose readings are sent
pub record Changed : Type 0 where
  pub board : Board
  pub changes : List ℕ

-- Rule 7: the readings of the tags asked for
unfoldable pub applied_to : Board → List ℕ → Float → ℤ → Bool → Changed
applied_to B results start t polled =
    let A = apply_all results start t polled B.asked B.table.tags in
    record { board = with_records B A.tags; changes = in_tag_order B.table.tags A.sent }

-- What was changed is C: how many changes, the board afterwards, and the lent list.
pub record Changing (C : Changed) (r : ℕ) (bs' out out' : List ℕ) : Type 0 where
  pub count_is : r ≡ length C.changes
  pub holds : Holds bs' C.board
  pub out_is : out' ≡ wrote_all out (cell_bytes (changes_in C.board C.changes))
