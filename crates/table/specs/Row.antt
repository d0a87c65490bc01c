-- The tag that a row of 32 cells holds. The cached entry begins at cell 16, the published one at cell 24; the two cells behind each are spare.
use Rattle.std.specs.Prelude.{cond, List, ℕ, ◌+◌, ◌-◌, ◌%◌, eqb, ltb, get_or, set, Option, Some, None}
use Rattle.std.specs.Float.{binary64}
use Rattle.std.specs.Float.Ieee.{of_bits}
use Rattle.words.specs.Time.{time_from}
use Rattle.words.specs.Entry.{held_from}
use Rattle.words.specs.declared.entry.EntryWords.{EntryWords}
use Rattle.table.specs.declared.tag.Grace.{Grace}
use Rattle.table.specs.declared.tag.Timing.{Timing}
use Rattle.table.specs.declared.tag.GroupRate.{GroupRate}
use Rattle.table.specs.declared.tag.Settings.{Settings}
use Rattle.table.specs.declared.tag.Description.{Description}
use Rattle.table.specs.declared.tag.Description.TheVariants.{Unknown, Nothing, Is}
use Rattle.table.specs.declared.tag.Tag.{Tag}

-- in no grace where the first is 0
abbrev pub grace_from : ℕ → ℕ → ℕ → Option Grace
grace_from on deadline after = cond (eqb on 0) None (Some (record { deadline = of_bits binary64 deadline; after = after % 256 }))

abbrev pub timing_from : ℕ → ℕ → ℕ → ℕ → Timing
timing_from read last missing retry = record { last = time_from read last; retry = time_from missing retry }

-- in no group where the first is 0
abbrev pub group_from : ℕ → ℕ → ℕ → Option GroupRate
group_from grouped number rate = cond (eqb grouped 0) None (Some (record { number = number % 256; rate = rate % 0x1_0000_0000 }))

abbrev pub settings_from : ℕ → ℕ → ℕ → ℕ → ℕ → Settings
settings_from band grouped group rate described = record { band = of_bits binary64 band; group = group_from grouped group rate; described = ltb 0 described }

-- 0 unknown, 1 none, and otherwise the number and 2
abbrev pub description_from : ℕ → Description
description_from n = cond (eqb n 0) Unknown (cond (eqb n 1) Nothing (Is ((n - 2) % 0x1_0000_0000)))

-- the six words from cell p on
abbrev pub entry_words_at : List ℕ → ℕ → EntryWords
entry_words_at ws p = record { held = get_or ws p 0; kind = get_or ws (p + 1) 0; word = get_or ws (p + 2) 0; t = get_or ws (p + 3) 0; error = get_or ws (p + 4) 0; message = get_or ws (p + 5) 0 }

-- a row with six words from cell p on
abbrev pub with_entry_words : List ℕ → ℕ → EntryWords → List ℕ
with_entry_words ws p w = set (set (set (set (set (set ws p w.held) (p + 1) w.kind) (p + 2) w.word) (p + 3) w.t) (p + 4) w.error) (p + 5) w.message

unfoldable pub tag_from : List ℕ → Tag
tag_from ws = record {
  tier = get_or ws 0 0 % 256;
  grace = grace_from (get_or ws 1 0) (get_or ws 2 0) (get_or ws 3 0);
  timing = timing_from (get_or ws 4 0) (get_or ws 5 0) (get_or ws 6 0) (get_or ws 7 0);
  added = ltb 0 (get_or ws 8 0);
  wants = ltb 0 (get_or ws 9 0);
  description = description_from (get_or ws 10 0);
  settings = settings_from (get_or ws 11 0) (get_or ws 12 0) (get_or ws 13 0) (get_or ws 14 0) (get_or ws 15 0);
  cached = held_from (entry_words_at ws 16);
  published = held_from (entry_words_at ws 24);
}
