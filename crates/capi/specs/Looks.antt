-- Looks: what they answer, and what they leave in a lent list, by the engine's memory. The engine stays as it is. `shown` has what is found in a head and a board.
use Rattle.std.specs.Prelude.{Bool, cond, List, ℕ, ◌/◌, eqb, length}
use Rattle.names.specs.Directory.{max_names}
use Rattle.panel.specs.Panel.{panel_room}
use Rattle.replies.specs.Worker.{Worker}
use Rattle.shown.specs.Looks as shown
use Rattle.shown.specs.Looks.{state_of, no_state, stats_of, no_stats, counts_of, no_counts, short_of, no_look, tag_found}
use Rattle.shown.specs.declared.head.StateLook.{StateLook}
use Rattle.shown.specs.declared.head.StatsLook.{StatsLook}
use Rattle.shown.specs.declared.counts.CountsLook.{CountsLook}
use Rattle.shown.specs.declared.tag.TagLook.{TagLook}
use Rattle.capi.specs.Memory.{size_check, not_an_engine, worker_in}

abbrev pub is_engine : List ℕ → Bool
is_engine mem = eqb (size_check (length mem)) 0

unfoldable pub state_look : List ℕ → StateLook
state_look mem = cond (is_engine mem) (state_of (worker_in mem).head.link) (no_state not_an_engine)

-- Rule 10: the statistics of the rounds
unfoldable pub stats_look : List ℕ → StatsLook
stats_look mem = cond (is_engine mem) (stats_of (worker_in mem).head.stats) (no_stats not_an_engine)

-- Rule 10: tier counts
unfoldable pub counts_look : List ℕ → CountsLook
counts_look mem = cond (is_engine mem) (counts_of (worker_in mem).board) (no_counts not_an_engine)

-- ---- lists

-- Check 43: fewer places than asked for
abbrev pub room_check : List ℕ → ℕ → ℕ → ℕ
room_check mem places asked = cond (is_engine mem) (short_of places asked) not_an_engine

-- Rule 10: group statistics; 16 places are asked for
abbrev pub group_cells : Worker → List ℕ
group_cells W = shown.group_cells W.board

abbrev pub group_count : Worker → List ℕ → ℕ
group_count W out = shown.group_count W.board out

abbrev pub group_check : List ℕ → List ℕ → ℕ
group_check mem out = room_check mem (length out / 40) 16

-- the table in table order; a place for every name that a directory can have is asked for
abbrev pub table_count : Worker → List ℕ → ℕ
table_count W out = shown.table_count W.board out

abbrev pub table_check : List ℕ → List ℕ → ℕ
table_check mem out = room_check mem (length out / 16) max_names

-- Rule 11: the panel list; the room asked for is that of a list of as many tags as a directory can have
abbrev pub panel_bytes : Worker → List ℕ
panel_bytes W = shown.panel_bytes W.board

abbrev pub panel_count : Worker → List ℕ → ℕ
panel_count W out = shown.panel_count W.board out

abbrev pub panel_code : List ℕ → List ℕ → ℕ
panel_code mem out = room_check mem (length out) (panel_room max_names)

-- ---- a tag

-- Check 23: no such tag
unfoldable pub tag_look : List ℕ → ℕ → TagLook
tag_look mem tag = cond (is_engine mem) (tag_found (worker_in mem).board (worker_in mem).head.count tag) (no_look not_an_engine)
