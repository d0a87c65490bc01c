-- Rule 10: what is told of each group.
use Rattle.std.specs.Prelude.{cond, List, [], ◌∷◌, ℕ, length, get_or}
use Rattle.tags.specs.Lists.{list_in}
use Rattle.table.specs.Table.{table_in}
use Rattle.table.specs.declared.tag.Tag.{Tag}
use Rattle.groups.specs.Groups.{fresh_group, groups_in}
use Rattle.groups.specs.declared.group.Group.{Group}
use Rattle.settings.specs.Configured.{configured_in}
use Rattle.table.specs.declared.tag.GroupRate.{GroupRate}
use Rattle.lent.specs.Lent.{cell_bytes, has_room, records}
use Rattle.statistics.specs.Counts.{group_tags}
use Rattle.statistics.specs.Numbers.{group_numbers}
use Rattle.statistics.specs.Rate.{group_rate}
use Rattle.statistics.specs.Period.{timed_cell, period_cell}

-- What statistics are made of: the table with its order, the configured groups, and what is recorded of groups.
pub record Facts : Type 0 where
  pub tags : List Tag
  pub order : List ℕ
  pub configured : List GroupRate
  pub groups : List Group
  pub recorded : List ℕ

abbrev pub facts : List ℕ → List ℕ → List ℕ → List ℕ → List ℕ → Facts
facts t order configured groups recorded = record {
  tags = table_in t;
  order = list_in order;
  configured = configured_in configured;
  groups = groups_in groups;
  recorded = list_in recorded;
}

-- Rule 10: what is told of a group: its number, its rate, its tags in tier 1 now, whether it has a last period, and that period
abbrev pub stat_cells : Facts → ℕ → List ℕ
stat_cells F group =
    let x = get_or F.groups group fresh_group in
    group ∷ group_rate F.configured F.groups F.recorded group ∷ group_tags group F.tags F.order ∷ timed_cell x ∷ period_cell x ∷ []

abbrev pub groups_of : Facts → List ℕ
groups_of F = group_numbers F.configured F.recorded

-- Rule 10: configured groups first, then recorded ones by first reading
abbrev pub group_stats : Facts → List ℕ
group_stats F = records (stat_cells F) (groups_of F)

-- how many groups are told of: none where there is no room for all of them
unfoldable pub groups_told : List ℕ → Facts → ℕ
groups_told out F = cond (has_room out (cell_bytes (group_stats F))) (length (groups_of F)) 0
