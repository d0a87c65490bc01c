-- Rule 6: the tick and the boundary.
use Rattle.std.specs.Prelude.{Bool, cond, List, [], ◌∷◌, ℕ, eqb, Float, get_or, Option, true, Some, None}
use Rattle.ieee.specs.Times.{least, due_at, rate_seconds}
use Rattle.table.specs.Tag.{fresh_tag}
use Rattle.table.specs.declared.tag.GroupRate.{GroupRate}
use Rattle.table.specs.declared.tag.Settings.{Settings}
use Rattle.table.specs.declared.tag.Tag.{Tag}
use Rattle.heads.specs.declared.cycle.Cycle.{Cycle}

-- Rule 6: a tag's rate is its group's, rate / 1000, or the cycle without a group.
abbrev pub rate_of_group : Option GroupRate → Float → Float
rate_of_group None cycle = cycle
rate_of_group (Some g) cycle = rate_seconds g.rate

abbrev pub rate_of : Settings → Float → Float
rate_of s cycle = rate_of_group s.group cycle

-- the least of `tick` and the rates of the tier-1 tags of a list
unfoldable pub least_rate : List Tag → Float → Float → List ℕ → Float
least_rate tags cycle tick [] = tick
least_rate tags cycle tick (k ∷ ks) =
    least_rate tags cycle (cond (eqb (get_or tags k fresh_tag).tier 1) (least tick (rate_of (get_or tags k fresh_tag).settings cycle)) tick) ks

-- Rule 6: tick is the least of the cycle and tier-1 rates.
abbrev pub tick_of : List Tag → List ℕ → Float → Float
tick_of tags order cycle = least_rate tags cycle cycle order

-- Rule 6: due if now + tick/2 >= last + rate; what never was is due.
abbrev pub due_since : Option Float → Float → Float → Float → Bool
due_since None clock half rate = true
due_since (Some last) clock half rate = due_at clock half last rate

-- Rule 6: it is a boundary if none came before or now + tick/2 >= last boundary + cycle.
abbrev pub boundary_at : Cycle → Float → Float → Float → Bool
boundary_at c clock half cycle = due_since c.last clock half cycle
