-- Rule 6: the due tags, and what is recorded of them.
use Rattle.std.specs.Prelude.{Bool, true, false, not, ◌&&◌, List, [], ◌∷◌, ℕ, eqb, Float, get_or, set, replicate, Option, Some, None}
use Rattle.lists.specs.Keep.{keep}
use Rattle.table.specs.Tag.{fresh_tag}
use Rattle.table.specs.Table.{with_last}
use Rattle.table.specs.declared.tag.GroupRate.{GroupRate}
use Rattle.table.specs.declared.tag.Tag.{Tag}
use Rattle.groups.specs.Groups.{Groups, noted}
use Rattle.rounds.specs.Tick.{rate_of, due_since}

-- Rule 6: a tier-1 tag is due if now + tick/2 >= last + rate; never read is always due.
abbrev pub is_due : Tag → Float → Float → Float → Bool
is_due x clock half cycle = eqb x.tier 1 && due_since x.timing.last clock half (rate_of x.settings cycle)

-- Rule 6: due tags stand in table order.
abbrev pub due_tags : List Tag → List ℕ → Float → Float → Float → List ℕ
due_tags tags order clock half cycle = keep (λ (k : ℕ). is_due (get_or tags k fresh_tag) clock half cycle) order

-- Rule 6: the last reading time of the tags of a list is set.
unfoldable pub marked : List Tag → Float → List ℕ → List Tag
marked tags clock [] = tags
marked tags clock (k ∷ ks) = marked (set tags k (with_last (get_or tags k fresh_tag) clock)) clock ks

-- for each group number, whether a tag of it was met in this round
abbrev pub none_seen : List Bool
none_seen = replicate 256 false

-- a tag's group is met
abbrev pub seen_with : List Bool → Option GroupRate → List Bool
seen_with seen None = seen
seen_with seen (Some g) = set seen g.number true

-- what a due tag records of its group: the group's times move on with the first tag of it in a round
abbrev pub noted_due : Groups → List Bool → Option GroupRate → Float → Groups
noted_due G seen None clock = G
noted_due G seen (Some g) clock = noted G g.number g.rate clock (not (get_or seen g.number false))

-- Rules 6 and 10: a due tag records its group, its rate, and the time of the round.
unfoldable pub recorded_due : List Tag → Float → List Bool → Groups → List ℕ → Groups
recorded_due tags clock seen G [] = G
recorded_due tags clock seen G (k ∷ ks) =
    recorded_due tags clock (seen_with seen (get_or tags k fresh_tag).settings.group) (noted_due G seen (get_or tags k fresh_tag).settings.group clock) ks
