-- Rule 5: what the graces of every table of an engine meet.
use Rattle.std.specs.Prelude.{◌≡◌, cond, ℕ, ◌≤◌, length, is_some}
use Rattle.lists.specs.Keep.{count}
use Rattle.board.specs.Board.{Table, tag_at}

-- A tag stands in the list of graces once while it is in grace, and not at all otherwise. The list has room for every tag of the directory.
pub record Graced (T : Table) : Type 0 where
  pub once : (k : ℕ) → count k T.graces ≡ cond (is_some (tag_at T k).grace) 1 0
  pub enough : length T.tags ≤ T.room
