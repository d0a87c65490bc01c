-- Looks are never cut. A look that is not refused gives all that there is: where the definitions of `capi` say what is told of more than the lent list holds, no engine comes
-- to that.
use Rattle.std.specs.Prelude.{◌≡◌, List, ◌∷◌, ◌++◌, map, ℕ, ◌≤◌, ◌/◌, length, drop}
use Rattle.names.specs.Directory.{max_names}
use Rattle.panel.specs.Panel.{tier_in, panel_room}
use Rattle.lent.specs.Lent.{cell_bytes, over_bytes, records}
use Rattle.statistics.specs.Stats.{groups_of}
use Rattle.histories.specs.Events.{Each}
use Rattle.histories.specs.Histories.{at_each}
use Rattle.shown.specs.Looks.{facts_of, row_cells}
use Rattle.replies.specs.Worker.{Worker}
use Rattle.capi.specs.Creation.{fresh_worker}
use Rattle.checks.specs.Creation.{Setup, creation_check}
use Rattle.capi.specs.Looks.{group_cells}
use Rattle.turns.specs.Calls.{Call, tier, load, steps, write, stop, look, look_state, look_stats, look_counts, look_groups, look_table, look_panel, look_tag, Answer, list_is, answer, after}
use Rattle.turns.specs.Demand.{Moment, moment}

-- so many, and what is left in the lent list
abbrev pub all : ℕ → List ℕ → Answer
all n left = list_is (record { code = 0; count = n }) left

-- Rule 10: the groups, and the tags in table order
abbrev pub groups_in : Worker → List ℕ
groups_in W = groups_of (facts_of W.board)

abbrev pub order_in : Worker → List ℕ
order_in W = W.board.table.order

-- how many tags the engine is for
abbrev pub rows_in : Worker → ℕ
rows_in W = length W.board.table.tags

-- Rule 11: a count byte n, then n tag bytes, then n tier bytes
abbrev pub panel_in : Worker → List ℕ
panel_in W = length (order_in W) ∷ (order_in W ++ map (tier_in W.board.table.tags) (order_in W))

-- Of a call on an engine. The group statistics: at most 16 groups, and where 16 places are lent all are told. The table: at most as many tags as the engine is for, which
-- are no more than a directory can have names, and where a place is lent for each of these all are told. The panel list: at most the bytes of a list of as many tags as the
-- engine is for, and where the bytes of the longest list are lent all are written.
unfoldable pub WholeLook : Moment → Type 0
WholeLook m = go m.call
  where
    W : Worker
    W = m.engine

    go : Call → Type 0
    go (tier clock tag to) = Unit {0}
    go (load clock list) = Unit {0}
    go (steps clock wall kind number message list out) = Unit {0}
    go (write tag kind word) = Unit {0}
    go stop = Unit {0}
    go (look look_state) = Unit {0}
    go (look look_stats) = Unit {0}
    go (look look_counts) = Unit {0}
    go (look (look_groups out)) = (length (groups_in W) ≤ 16) × (16 ≤ length out / 40 → answer (look (look_groups out)) W ≡ all (length (groups_in W)) (over_bytes out (cell_bytes (group_cells W))))
    go (look (look_table out)) = (length (order_in W) ≤ rows_in W) × (rows_in W ≤ max_names) × (max_names ≤ length out / 16 → answer (look (look_table out)) W ≡ all (length (order_in W)) (over_bytes out (cell_bytes (records (row_cells W.board) (order_in W)))))
    go (look (look_panel out)) = (length (panel_in W) ≤ panel_room (rows_in W)) × (rows_in W ≤ max_names) × (panel_room max_names ≤ length out → answer (look (look_panel out)) W ≡ all (length (panel_in W)) (panel_in W ++ drop (length (panel_in W)) out))
    go (look (look_tag tag)) = Unit {0}

unfoldable pub LooksWhole : Type 0
LooksWhole = (s : Setup) → creation_check s ≡ 0 → (cs : List Call) → Each (at_each after moment cs (fresh_worker s)) WholeLook
