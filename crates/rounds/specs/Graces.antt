-- Rule 6: at a boundary, graces with deadline <= now run out first, in grace order.
use Rattle.std.specs.Prelude.{Bool, cond, List, [], ◌∷◌, ℕ, Float, get_or, Option, Some, None}
use Rattle.std.specs.Float.Ieee.{le}
use Rattle.lists.specs.Keep.{keep}
use Rattle.table.specs.Tag.{fresh_tag, f0}
use Rattle.table.specs.declared.tag.Grace.{Grace}
use Rattle.table.specs.declared.tag.Tag.{Tag}
use Rattle.tiers.specs.Tiers.{set_table}
use Rattle.board.specs.Board.{Table, tag_at}

-- a tag in no grace has the deadline 0, and no tier to go to; no such tag is among the graces
abbrev pub deadline_of : Option Grace → Float
deadline_of None = f0
deadline_of (Some g) = g.deadline

abbrev pub after_of : Option Grace → ℕ
after_of None = 0
after_of (Some g) = g.after

abbrev pub has_run_out : List Tag → Float → ℕ → Bool
has_run_out tags clock k = le (deadline_of (get_or tags k fresh_tag).grace) clock

-- the tags whose grace has run out
abbrev pub expired : List Tag → List ℕ → Float → List ℕ
expired tags graces clock = keep (has_run_out tags clock) graces

-- Rule 6: graces run out at a boundary alone.
abbrev pub expired_at : Bool → List Tag → List ℕ → Float → List ℕ
expired_at boundary tags graces clock = cond boundary (expired tags graces clock) []

-- each goes where it was to go after its grace
unfoldable pub run_out : Table → List ℕ → Table
run_out T [] = T
run_out T (k ∷ ks) = run_out (set_table T k (after_of (tag_at T k).grace)) ks
