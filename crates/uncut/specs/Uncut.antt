-- No list is ever cut. The rules speak of plain lists; a list in memory has a room, which document 01 does not know, and keeps what fits: one tag more in the order or in the graces (`pushed`), the tags
-- asked for (`asking`), one group more that is recorded. The claim: with any more room in each list, every list of calls would be answered the same, and leave the same engines.
use Rattle.std.specs.Prelude.{◌≡◌, List, map, ℕ, ◌+◌, ◌≤◌, length}
use Rattle.std.proofs.Math.Option.{some}
use Rattle.groups.specs.Groups.{Groups}
use Rattle.rounds.specs.Round.{Round}
use Rattle.lent.specs.Lent.{over_bytes, wrote_all}
use Rattle.histories.specs.Events.{Each}
use Rattle.histories.specs.Histories.{at_each, answers, states}
use Rattle.board.specs.Board.{Board, Table, with_table, with_groups}
use Rattle.replies.specs.Worker.{Worker, at, worker}
use Rattle.cycles.specs.Polling.{round_at}
use Rattle.capi.specs.Calls.{answer_of}
use Rattle.checks.specs.Creation.{Setup, creation_check}
use Rattle.capi.specs.Creation.{fresh_worker}
use Rattle.turns.specs.Calls.{Call, tier, load, steps, write, stop, look, told_by, answer, after}
use Rattle.turns.specs.Demand.{Moment, moment}
use Rattle.turns.specs.Once.{answered_to}

-- ---- an engine with more room

-- the order, the graces and the tags asked for
abbrev pub table_roomed : ℕ → Table → Table
table_roomed n T = record { tags = T.tags; order = T.order; graces = T.graces; room = T.room + n; words = T.words }

-- the groups recorded
abbrev pub groups_roomed : ℕ → Groups → Groups
groups_roomed n G = record { groups = G.groups; recorded = G.recorded; recorded_room = G.recorded_room + n }

-- both
abbrev pub board_roomed : ℕ → Board → Board
board_roomed n B = with_groups (with_table B (table_roomed n B.table)) (groups_roomed n B.groups)

-- An engine whose lists each have n places more, and all else as it is.
abbrev pub roomed : ℕ → Worker → Worker
roomed n W = worker W.head (board_roomed n W.board)

-- ---- the claim

-- Of every setup that creation accepts and every list of calls, with any number n of places more.
--   same    the answers, and what is left in lent lists, are the same
--   kept    so is the engine after each call, but for its rooms
pub record Uncut (s : Setup) (cs : List Call) (n : ℕ) : Type 0 where
  pub same : answers after answer cs (roomed n (fresh_worker s)) ≡ answers after answer cs (fresh_worker s)
  pub kept : states after cs (roomed n (fresh_worker s)) ≡ map (roomed n) (states after cs (fresh_worker s))

unfoldable pub NeverCut : Type 0
NeverCut = (s : Setup) → creation_check s ≡ 0 → (cs : List Call) (n : ℕ) → Uncut s cs n

-- ---- the list of a round, and the list that a step is lent

-- Of a call on an engine, if it is a step: the round that it works out is the one at the engine as the answer leaves it, and there is room for its list, so that all of it is
-- asked for; and all bytes of the step stand in the lent list.
unfoldable pub WholeStep : Moment → Type 0
WholeStep m = go m.call
  where
    go : Call → Type 0
    go (tier clock tag to) = Unit {0}
    go (load clock list) = Unit {0}
    go (steps clock wall kind number message list out) =
        let now = at clock wall in
        let M = (answered_to m.engine now (answer_of kind number message list)).left in
        let T = told_by clock wall kind number message list out m.engine in
        ((R : Round) → T.round ≡ some R → (R ≡ round_at M now) × (length R.list ≤ R.after.table.room)) × (wrote_all out T.bytes ≡ over_bytes out T.bytes)
    go (write tag kind word) = Unit {0}
    go stop = Unit {0}
    go (look l) = Unit {0}

unfoldable pub StepsWhole : Type 0
StepsWhole = (s : Setup) → creation_check s ≡ 0 → (cs : List Call) → Each (at_each after moment cs (fresh_worker s)) WholeStep
