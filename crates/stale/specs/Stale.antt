-- Rule 7: stale.
use Rattle.std.specs.Prelude.{Bool, true, false, not, cond, List, map, ℕ, get_or, Option, Some, None}
use Rattle.lists.specs.Keep.{keep}
use Rattle.values.specs.declared.entry.Quality.{Quality}
use Rattle.values.specs.declared.entry.Quality.TheVariants.{Good, Bad, Missing, Stale}
use Rattle.table.specs.Tag.{fresh_tag}
use Rattle.table.specs.declared.tag.Tag.{Tag}
use Rattle.table.specs.Table.{by_rank}
use Rattle.board.specs.Board.{Board, with_records}
use Rattle.readings.specs.Changes.{Changed}
use Rattle.values.specs.declared.entry.Entry.{Entry}

abbrev pub is_stale : Quality → Bool
is_stale Good = false
is_stale Bad = false
is_stale Missing = false
is_stale Stale = true

-- Rule 7: cached and not stale yet.
abbrev pub is_fresh : Option Entry → Bool
is_fresh None = false
is_fresh (Some e) = not (is_stale e.quality)

-- Rule 7: stale keeps value and time, and clears the error.
abbrev pub stale_held : Option Entry → Option Entry
stale_held None = None
stale_held (Some e) = Some (record { value = e.value; quality = Stale; t = e.t; error = None })

-- Rule 7: every cached tag not stale yet is made stale, and so published.
abbrev pub is_staled : Tag → Bool
is_staled x = is_fresh x.cached

-- Rule 7: the tag once the table is marked stale; what is published is the stale entry.
unfoldable pub tag_stale : Tag → Tag
tag_stale x = record {
  tier = x.tier;
  grace = x.grace;
  timing = x.timing;
  added = x.added;
  wants = x.wants;
  description = x.description;
  settings = x.settings;
  cached = cond (is_staled x) (stale_held x.cached) x.cached;
  published = cond (is_staled x) (stale_held x.cached) x.published;
}

-- Rule 7: the tags of a table that are made stale, in tag order.
abbrev pub staled_tags : List Tag → List ℕ
staled_tags tags = keep (λ (k : ℕ). is_staled (get_or tags k fresh_tag)) (by_rank tags)

-- Rule 7: every cached tag not stale yet becomes stale
unfoldable pub staled_in : Board → Changed
staled_in B = record { board = with_records B (map tag_stale B.table.tags); changes = staled_tags B.table.tags }
