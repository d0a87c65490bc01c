-- Groups 5 and 2 are configured, 5 twice; 7 and then 2 are recorded.
use mathlib.Core.Path.{◌≡◌, refl}
use mathlib.Core.List.{List, [], ◌∷◌}
use Prim.Native.Nat.{ℕ}
use Rattle.std.specs.Prelude.{Some, None}
use Rattle.lists.specs.Keep.{keep}
use Rattle.table.specs.Tag.{f0}
use Rattle.groups.specs.Groups.{fresh_group}
use Rattle.groups.specs.declared.group.Group.{Group}
use Rattle.table.specs.declared.tag.GroupRate.{GroupRate}
use Rattle.statistics.specs.Numbers.{firsts, group_numbers}
use Rattle.statistics.specs.Rate.{last_rate_from, group_rate}
use Rattle.statistics.specs.Period.{timed_cell}

abbrev group : ℕ → ℕ → GroupRate
group n rate = record { number = n; rate = rate }

abbrev configured : List GroupRate
configured = group 5 100 ∷ group 2 200 ∷ group 5 300 ∷ []

abbrev recorded : List ℕ
recorded = 7 ∷ 2 ∷ []

-- the time of one round
abbrev once : Group
once = record { rate = 250; last = Some f0; before = None }

abbrev groups : List Group
groups = fresh_group ∷ fresh_group ∷ once ∷ []

-- the configured groups stand first, each once
pub order : group_numbers configured recorded ≡ 5 ∷ 2 ∷ 7 ∷ []
unfolding firsts keep
order = refl

-- the last configured rate
pub rate_configured : group_rate configured groups recorded 5 ≡ 300
unfolding last_rate_from
rate_configured = refl

-- the recorded rate of a group that is configured too
pub rate_recorded : group_rate configured groups recorded 2 ≡ 250
rate_recorded = refl

-- read once: no period
pub untimed : timed_cell once ≡ 0
untimed = refl
