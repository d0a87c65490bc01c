-- Rule 10: counts of tags.
use Rattle.std.specs.Prelude.{Bool, false, ◌&&◌, List, ℕ, eqb, length, get_or, Option, Some, None}
use Rattle.lists.specs.Keep.{keep}
use Rattle.table.specs.Tag.{fresh_tag}
use Rattle.table.specs.declared.tag.GroupRate.{GroupRate}
use Rattle.table.specs.declared.tag.Tag.{Tag}

-- Rule 10: how many tags of the table order are in a tier
abbrev pub tier_count : ℕ → List Tag → List ℕ → ℕ
tier_count tier tags order = length (keep (λ (k : ℕ). eqb (get_or tags k fresh_tag).tier tier) order)

-- whether a setting's group is the group
abbrev pub is_of_group : ℕ → Option GroupRate → Bool
is_of_group group None = false
is_of_group group (Some g) = eqb g.number group

-- Rule 10: a tag counts for its group while it is in tier 1
abbrev pub is_in_group : ℕ → Tag → Bool
is_in_group group x = eqb x.tier 1 && is_of_group group x.settings.group

-- Rule 10: how many tags of a group are in tier 1
abbrev pub group_tags : ℕ → List Tag → List ℕ → ℕ
group_tags group tags order = length (keep (λ (k : ℕ). is_in_group group (get_or tags k fresh_tag)) order)
