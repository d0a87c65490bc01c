-- Rule 5: what every table of an engine meets.
use Rattle.std.specs.Prelude.{◌≡◌, ℕ, zero, suc, ◌≤◌, length}
use Rattle.lists.specs.Keep.{count, Below}
use Rattle.board.specs.Board.{Table, tag_at}

-- 1 for a tier, 0 for none
abbrev pub in_tier : ℕ → ℕ
in_tier zero = 0
in_tier (suc n) = 1

-- A tag stands in the order once if it has a tier, and not at all otherwise. Tags in grace are tags of the directory, and the order has room for all of these.
pub record Listed (T : Table) : Type 0 where
  pub once : (k : ℕ) → count k T.order ≡ in_tier (tag_at T k).tier
  pub graced : Below (length T.tags) T.graces
  pub enough : length T.tags ≤ T.room
