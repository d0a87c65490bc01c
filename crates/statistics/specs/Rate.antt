-- Rule 10: a group's rate.
use Rattle.std.specs.Prelude.{cond, List, [], ◌∷◌, ℕ, eqb, get_or}
use Rattle.tags.specs.Lists.{member}
use Rattle.groups.specs.Groups.{fresh_group}
use Rattle.groups.specs.declared.group.Group.{Group}
use Rattle.table.specs.declared.tag.GroupRate.{GroupRate}

-- the last rate that a list configures for a group, and the given one where it has none
unfoldable pub last_rate_from : ℕ → List GroupRate → ℕ → ℕ
last_rate_from rate [] group = rate
last_rate_from rate (x ∷ xs) group = last_rate_from (cond (eqb x.number group) x.rate rate) xs group

-- Rule 10: the last configured rate
abbrev pub last_rate : List GroupRate → ℕ → ℕ
last_rate configured group = last_rate_from 0 configured group

-- Rule 10: a group's rate is the last recorded, else the last configured
abbrev pub group_rate : List GroupRate → List Group → List ℕ → ℕ → ℕ
group_rate configured groups recorded group = cond (member group recorded) (get_or groups group fresh_group).rate (last_rate configured group)
