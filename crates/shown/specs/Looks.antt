-- What looks answer, by the head and the board, and what they leave in a lent list.
use Rattle.std.specs.Prelude.{cond, List, [], ◌∷◌, ℕ, ℤ, Float, ◌+◌, ◌/◌, eqb, ltb, leb, pos, length, Option, Some, None}
use Rattle.std.specs.Float.{binary64}
use Rattle.std.specs.Float.Ieee.{of_bits}
use Rattle.words.specs.Entry.{held_words_of}
use Rattle.table.specs.declared.tag.Tag.{Tag}
use Rattle.table.specs.declared.tag.Description.{Description}
use Rattle.table.specs.declared.tag.Description.TheVariants.{Unknown, Nothing, Is}
use Rattle.panel.specs.Panel.{panel_of, written, written_length}
use Rattle.lent.specs.Lent.{cell_bytes, wrote_all}
use Rattle.statistics.specs.Counts.{tier_count}
use Rattle.statistics.specs.Stats.{Facts, group_stats, groups_told}
use Rattle.heads.specs.Link.{state_number}
use Rattle.heads.specs.declared.link.Link.{Link}
use Rattle.heads.specs.declared.stats.RoundTime.{RoundTime}
use Rattle.heads.specs.declared.stats.Stats.{Stats}
use Rattle.board.specs.Board.{Board, tag_at}
use Rattle.shown.specs.declared.head.StateLook.{StateLook}
use Rattle.shown.specs.declared.head.StatsLook.{StatsLook}
use Rattle.shown.specs.declared.counts.CountsLook.{CountsLook}
use Rattle.shown.specs.declared.list_looks.ListLook.{ListLook}
use Rattle.shown.specs.declared.tag.TagLook.{TagLook}

-- ---- the state and the version

abbrev pub known_cell : Option ℕ → ℕ
known_cell None = 0
known_cell (Some n) = 1

abbrev pub version_cell : Option ℕ → ℕ
version_cell None = 0
version_cell (Some n) = n

abbrev pub state_of : Link → StateLook
state_of x = record { code = 0; state = state_number x.state; known = known_cell x.version; version = version_cell x.version }

abbrev pub no_state : ℕ → StateLook
no_state code = record { code = code; state = 0; known = 0; version = 0 }

-- ---- rule 10: the statistics of the rounds

-- 1 where a round has ended
abbrev pub timed_cell : Option RoundTime → ℕ
timed_cell None = 0
timed_cell (Some r) = 1

-- without one the time and the wall time are 0
abbrev pub ms_cell : Option RoundTime → Float
ms_cell None = of_bits binary64 0
ms_cell (Some r) = r.ms

abbrev pub ts_cell : Option RoundTime → ℤ
ts_cell None = pos 0
ts_cell (Some r) = r.ts

abbrev pub stats_of : Stats → StatsLook
stats_of x = record {
  code = 0;
  timed = timed_cell x.last;
  ms = ms_cell x.last;
  ts = ts_cell x.last;
  reads = x.tags;
  tags = x.tags;
  overruns = x.overruns;
  reconnects = x.reconnects;
  reloads = x.reloads;
}

abbrev pub no_stats : ℕ → StatsLook
no_stats code = record { code = code; timed = 0; ms = of_bits binary64 0; ts = pos 0; reads = 0; tags = 0; overruns = 0; reconnects = 0; reloads = 0 }

-- ---- rule 10: tier counts

abbrev pub count_in : Board → ℕ → ℕ
count_in B tier = tier_count tier B.table.tags B.table.order

abbrev pub counts_of : Board → CountsLook
counts_of B = record { code = 0; tier1 = count_in B 1; tier2 = count_in B 2; tier3 = count_in B 3 }

abbrev pub no_counts : ℕ → CountsLook
no_counts code = record { code = code; tier1 = 0; tier2 = 0; tier3 = 0 }

-- ---- lists

-- a look that refuses with n, or gives so many
abbrev pub listed : ℕ → ℕ → ListLook
listed code n = record { code = code; count = cond (eqb code 0) n 0 }

-- Check 43: fewer places than asked for
abbrev pub short_of : ℕ → ℕ → ℕ
short_of places asked = cond (ltb places asked) 43 0

-- what the lent list holds: the cells where nothing refuses
abbrev pub left_in : ℕ → List ℕ → List ℕ → List ℕ
left_in code out cells = cond (eqb code 0) (wrote_all out (cell_bytes cells)) out

-- Rule 10: what the group statistics go by
abbrev pub facts_of : Board → Facts
facts_of B = record { tags = B.table.tags; order = B.table.order; configured = B.configured; groups = B.groups.groups; recorded = B.groups.recorded }

-- a tag of the table and its tier
abbrev pub row_cells : Board → ℕ → List ℕ
row_cells B k = k ∷ (tag_at B.table k).tier ∷ []

-- Rule 10: group statistics, five cells each; 16 places are asked for
abbrev pub group_cells : Board → List ℕ
group_cells B = group_stats (facts_of B)

-- how many; an engine has 16 at most, which the places asked for hold, but other bytes can name more, and then none is told
abbrev pub group_count : Board → List ℕ → ℕ
group_count B out = groups_told out (facts_of B)

-- n, or none where there are fewer places
abbrev pub fitting : ℕ → ℕ → ℕ
fitting n places = cond (ltb places n) 0 n

-- how many tags the table lists; a place for every name that a directory can have is asked for. An engine lists no more, but other bytes can, and then none is written
abbrev pub table_count : Board → List ℕ → ℕ
table_count B out = fitting (length B.table.order) (length out / 16)

-- Rule 11: the panel list; the room asked for is that of a list of as many tags as a directory can have
abbrev pub panel_bytes : Board → List ℕ
panel_bytes B = panel_of B.table.tags B.table.order

-- its length; an engine lists no more tags, but other bytes can, and then none is written
abbrev pub panel_count : Board → List ℕ → ℕ
panel_count B out = written_length out (panel_bytes B)

abbrev pub panel_left : ℕ → List ℕ → List ℕ → List ℕ
panel_left code out bytes = cond (eqb code 0) (written out bytes) out

-- ---- a tag

abbrev pub description_cell : Description → ℕ
description_cell Unknown = 0
description_cell Nothing = 1
description_cell (Is n) = n + 2

abbrev pub tag_of : Tag → TagLook
tag_of x =
    let w = held_words_of x.cached in
    record { code = 0; tier = x.tier; held = w.held; kind = w.kind; word = w.word; t = w.t; error = w.error; message = w.message; has_g = 0; g = 0; description = description_cell x.description }

abbrev pub no_look : ℕ → TagLook
no_look code = record { code = code; tier = 0; held = 0; kind = 0; word = 0; t = 0; error = 0; message = 0; has_g = 0; g = 0; description = 0 }

-- Check 23: there are `count` tags
abbrev pub tag_found : Board → ℕ → ℕ → TagLook
tag_found B count tag = cond (leb count tag) (no_look 23) (tag_of (tag_at B.table tag))
