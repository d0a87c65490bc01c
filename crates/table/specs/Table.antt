-- The tags that lent memory holds, by rank, and a tag with one part replaced.
use Rattle.std.specs.Prelude.{Bool, List, map, ℕ, min, Float, length, Option, Some, None}
use Rattle.lists.specs.Keep.{up_to}
use Rattle.memory.specs.Cells.{rows_in}
use Rattle.values.specs.declared.entry.Entry.{Entry}
use Rattle.table.specs.Tag.{f0, no_timing}
use Rattle.table.specs.Row.{tag_from}
use Rattle.table.specs.declared.tag.Grace.{Grace}
use Rattle.table.specs.declared.tag.Timing.{Timing}
use Rattle.table.specs.declared.tag.Description.{Description}
use Rattle.table.specs.declared.tag.Tag.{Tag}

-- a tag for each row
unfoldable pub table_in : List ℕ → List Tag
table_in bs = map tag_from (rows_in bs)

-- The tags of a table by rank, which is byte order. A list in memory holds tags below 65536; no directory has so many.
abbrev pub by_rank : List Tag → List ℕ
by_rank tags = up_to (min (length tags) 65536)

abbrev pub with_grace : Tag → Option Grace → Tag
with_grace x g = record {
  tier = x.tier;
  grace = g;
  timing = x.timing;
  added = x.added;
  wants = x.wants;
  description = x.description;
  settings = x.settings;
  cached = x.cached;
  published = x.published;
}

abbrev pub with_timing : Tag → Timing → Tag
with_timing x m = record {
  tier = x.tier;
  grace = x.grace;
  timing = m;
  added = x.added;
  wants = x.wants;
  description = x.description;
  settings = x.settings;
  cached = x.cached;
  published = x.published;
}

-- read at the clock time `at`
abbrev pub with_last : Tag → Float → Tag
with_last x at = with_timing x (record { last = Some at; retry = x.timing.retry })

-- missing, to be asked for again at a time, or not missing
abbrev pub with_mark : Tag → Option Float → Tag
with_mark x retry = with_timing x (record { last = x.timing.last; retry = retry })

abbrev pub with_added : Tag → Bool → Tag
with_added x b = record {
  tier = x.tier;
  grace = x.grace;
  timing = x.timing;
  added = b;
  wants = x.wants;
  description = x.description;
  settings = x.settings;
  cached = x.cached;
  published = x.published;
}

abbrev pub with_wants : Tag → Bool → Tag
with_wants x b = record {
  tier = x.tier;
  grace = x.grace;
  timing = x.timing;
  added = x.added;
  wants = b;
  description = x.description;
  settings = x.settings;
  cached = x.cached;
  published = x.published;
}

abbrev pub with_description : Tag → Description → Tag
with_description x d = record {
  tier = x.tier;
  grace = x.grace;
  timing = x.timing;
  added = x.added;
  wants = x.wants;
  description = d;
  settings = x.settings;
  cached = x.cached;
  published = x.published;
}

-- a grace to the same deadline, 0 where there was none, the tier `after` following
abbrev pub followed : Option Grace → ℕ → Option Grace
followed None after = Some (record { deadline = f0; after = after })
followed (Some g) after = Some (record { deadline = g.deadline; after = after })

-- in grace, whether or not it was
abbrev pub with_after : Tag → ℕ → Tag
with_after x after = with_grace x (followed x.grace after)

abbrev pub with_standing : Tag → ℕ → Option Grace → Bool → Bool → Tag
with_standing x tier g added wants = record {
  tier = tier;
  grace = g;
  timing = x.timing;
  added = added;
  wants = wants;
  description = x.description;
  settings = x.settings;
  cached = x.cached;
  published = x.published;
}

-- the entry e cached
abbrev pub with_cached : Tag → Entry → Tag
with_cached x e = record {
  tier = x.tier;
  grace = x.grace;
  timing = x.timing;
  added = x.added;
  wants = x.wants;
  description = x.description;
  settings = x.settings;
  cached = Some e;
  published = x.published;
}

-- the entry e published
abbrev pub with_published : Tag → Entry → Tag
with_published x e = record {
  tier = x.tier;
  grace = x.grace;
  timing = x.timing;
  added = x.added;
  wants = x.wants;
  description = x.description;
  settings = x.settings;
  cached = x.cached;
  published = Some e;
}

-- never read
abbrev pub without_last : Tag → Tag
without_last x = with_timing x (record { last = None; retry = x.timing.retry })

-- never read, not missing, with no entry
abbrev pub without_readings : Tag → Tag
without_readings x = record {
  tier = x.tier;
  grace = x.grace;
  timing = no_timing;
  added = x.added;
  wants = x.wants;
  description = x.description;
  settings = x.settings;
  cached = None;
  published = None;
}
