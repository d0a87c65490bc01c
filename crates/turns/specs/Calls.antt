-- The calls of an engine, and what rules 1 to 11 and the checks make of each: what it answers, what it leaves in the lists lent to it, and the engine it leaves.
use Rattle.std.specs.Prelude.{cond, List, ℕ, ◌/◌, eqb, ltb, Float, ℤ, length}
use Rattle.names.specs.Directory.{max_names}
use Rattle.words.specs.Value.{value_from}
use Rattle.lent.specs.Lent.{records, wrote_all}
use Rattle.panel.specs.Panel.{panel_room}
use Rattle.board.specs.Board.{tag_at}
use Rattle.replies.specs.Worker.{Worker, Told, at}
use Rattle.replies.specs.declared.reply.Reply.{Reply}
use Rattle.worker.specs.Steps.{step}
use Rattle.shown.specs.Looks.{state_of, stats_of, counts_of, listed, left_in, panel_left, tag_of, no_look, row_cells}
use Rattle.shown.specs.declared.head.StateLook.{StateLook}
use Rattle.shown.specs.declared.head.StatsLook.{StatsLook}
use Rattle.shown.specs.declared.counts.CountsLook.{CountsLook}
use Rattle.shown.specs.declared.list_looks.ListLook.{ListLook}
use Rattle.shown.specs.declared.tag.TagLook.{TagLook}
use Rattle.checks.specs.Calls.{no_tag, tier_check, load_check, write_check}
use Rattle.capi.specs.Calls.{tiered, loaded, wrote, halted, answer_of}
use Rattle.capi.specs.Looks.{group_cells, group_count, table_count, panel_bytes, panel_count}

-- A look, with its arguments but the engine. `out` is a list that it may write.
pub data Look : Type 0 where
  look_state : Look
  look_stats : Look
  look_counts : Look
  look_groups : (out : List ℕ) → Look
  look_table : (out : List ℕ) → Look
  look_panel : (out : List ℕ) → Look
  look_tag : (tag : ℕ) → Look

-- A call of an entry point, with its arguments but the engine: numbers, and the bytes of each list that it is lent. `out` is a list that it may write. A look is one case, so that what holds of every look is said once.
pub data Call : Type 0 where
  tier : (clock : Float) (tag to : ℕ) → Call
  load : (clock : Float) (list : List ℕ) → Call
  steps : (clock : Float) (wall : ℤ) (kind number message : ℕ) (list out : List ℕ) → Call
  write : (tag kind word : ℕ) → Call
  stop : Call
  look : Look → Call

-- What a call answers: 0 or the number of a refusal; the reply of a step; what a look gives. `left` is what it leaves in the list that it may write.
pub data Answer : Type 0 where
  number_is : ℕ → Answer
  told : (reply : Reply) (left : List ℕ) → Answer
  state_is : StateLook → Answer
  stats_are : StatsLook → Answer
  counts_are : CountsLook → Answer
  list_is : (look : ListLook) (left : List ℕ) → Answer
  tag_is : TagLook → Answer

-- Rule 9: what a step comes to
abbrev pub told_by : Float → ℤ → ℕ → ℕ → ℕ → List ℕ → List ℕ → Worker → Told
told_by clock wall kind number message list out W = step W (at clock wall) (answer_of kind number message list) (length out)

-- Check 43 of a look: fewer places than asked for
abbrev pub places_check : ℕ → ℕ → ℕ
places_check places asked = cond (ltb places asked) 43 0

-- lists: how many, and what is left in the list; one that has too few places is left as it was
abbrev pub groups_found : Worker → List ℕ → ℕ → Answer
groups_found W out n = list_is (listed n (group_count W out)) (left_in n out (group_cells W))

abbrev pub table_found : Worker → List ℕ → ℕ → Answer
table_found W out n = list_is (listed n (table_count W out)) (left_in n out (records (row_cells W.board) W.board.table.order))

abbrev pub panel_found : Worker → List ℕ → ℕ → Answer
panel_found W out n = list_is (listed n (panel_count W out)) (panel_left n out (panel_bytes W))

-- What a call answers.
unfoldable pub answer : Call → Worker → Answer
answer (tier clock tag to) W = number_is (tier_check W clock tag to)
answer (load clock list) W = number_is (load_check W clock list)
answer (steps clock wall kind number message list out) W =
    let T = told_by clock wall kind number message list out W in
    told T.reply (wrote_all out T.bytes)
answer (write tag kind word) W = number_is (write_check W tag (value_from kind word))
answer stop W = number_is 0
answer (look look_state) W = state_is (state_of W.head.link)
answer (look look_stats) W = stats_are (stats_of W.head.stats)
answer (look look_counts) W = counts_are (counts_of W.board)
answer (look (look_groups out)) W = groups_found W out (places_check (length out / 40) 16)
answer (look (look_table out)) W = table_found W out (places_check (length out / 16) max_names)
answer (look (look_panel out)) W = panel_found W out (places_check (length out) (panel_room max_names))
answer (look (look_tag tag)) W = tag_is (cond (no_tag W tag) (no_look 23) (tag_of (tag_at W.board.table tag)))

-- what a call leaves whose checks came to n; a refusal changes nothing
abbrev pub accepted : ℕ → Worker → Worker → Worker
accepted n done W = cond (eqb n 0) done W

-- The engine that a call leaves. A look changes nothing.
unfoldable pub after : Call → Worker → Worker
after (tier clock tag to) W = accepted (tier_check W clock tag to) (tiered W clock tag to) W
after (load clock list) W = accepted (load_check W clock list) (loaded W clock list) W
after (steps clock wall kind number message list out) W = (told_by clock wall kind number message list out W).left
after (write tag kind word) W = accepted (write_check W tag (value_from kind word)) (wrote W tag (value_from kind word)) W
after stop W = halted W
after (look l) W = W
