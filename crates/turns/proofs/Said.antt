-- What the contract of each entry point says, in terms of what the lent memory and the lent lists hold: `X-said` of the entry point X. A contract that says less is
-- refused here.
use mathlib.Core.Path.{◌≡◌}
use mathlib.Core.List.{List}
use Prim.Native.Nat.{ℕ}
use lib.Ieee.{Float}
use lib.IntN.{ℤ}
use lib.ListN.{length}
use Rattle.words.specs.Value.{value_from}
use Rattle.lent.specs.Lent.{records}
use Rattle.replies.specs.Worker.{at}
use Rattle.replies.specs.declared.reply.Reply.{Reply}
use Rattle.worker.specs.Steps.{step}
use Rattle.shown.specs.Looks.{listed, left_in, panel_left, row_cells}
use Rattle.shown.specs.declared.head.StateLook.{StateLook}
use Rattle.shown.specs.declared.head.StatsLook.{StatsLook}
use Rattle.shown.specs.declared.counts.CountsLook.{CountsLook}
use Rattle.shown.specs.declared.list_looks.ListLook.{ListLook}
use Rattle.shown.specs.declared.tag.TagLook.{TagLook}
use Rattle.capi.specs.Memory.{worker_in, Called}
use Rattle.checks.specs.Calls.{tier_check, load_check, write_check}
use Rattle.capi.specs.Calls.{tiered, loaded, wrote, halted, answer_of, Stepped}
use Rattle.checks.specs.Creation.{Setup}
use Rattle.capi.specs.Creation.{Created}
use Rattle.capi.specs.Looks.{state_look, stats_look, counts_look, group_cells, group_count, group_check, table_count, table_check, panel_bytes, panel_count, panel_code, tag_look}
use Rattle.turns.specs.Calls.{Call, tier, load, steps, write, stop, look, look_state, look_stats, look_counts, look_groups, look_table, look_panel, look_tag}
use Rattle.turns.specs.EntryContracts.{Asked, CreateMet, TierMet, LoadMet, WriteMet, StopMet, StepMet, StateMet, StatsMet, CountsMet, GroupsMet, TableMet, PanelMet, TagMet}

-- ---- calls

pub create_said : (s : Setup) (old new : List ℕ) (r : ℕ) → CreateMet s old new r → Created old new r s
create_said s old new r h = rw (← h.names_is, ← h.ends_is, ← h.settings_is, ← h.groups_is, ← h.mem_is, ← h.mem_left) h.met

pub tier_said : (old new : List ℕ) (clock : Float) (tag to r : ℕ) → TierMet old new clock tag to r
    → Called old new r (tier_check (worker_in old) clock tag to) (tiered (worker_in old) clock tag to)
tier_said old new clock tag to r h = rw (← h.mem_is, ← h.mem_left) h.met

pub load_said : (old new : List ℕ) (clock : Float) (list : List ℕ) (r : ℕ) → LoadMet old new clock list r
    → Called old new r (load_check (worker_in old) clock list) (loaded (worker_in old) clock list)
load_said old new clock list r h = rw (← h.given_is, ← h.mem_is, ← h.mem_left) h.met

pub write_said : (old new : List ℕ) (tag kind word r : ℕ) → WriteMet old new tag kind word r
    → Called old new r (write_check (worker_in old) tag (value_from kind word)) (wrote (worker_in old) tag (value_from kind word))
write_said old new tag kind word r h = rw (← h.mem_is, ← h.mem_left) h.met

pub stop_said : (old new : List ℕ) (r : ℕ) → StopMet old new r → Called old new r 0 (halted (worker_in old))
stop_said old new r h = rw (← h.mem_is, ← h.mem_left) h.met

pub step_said : (old new : List ℕ) (clock : Float) (wall : ℤ) (kind number message : ℕ) (list out : List ℕ) (r : Reply) (out' : List ℕ)
    → StepMet old new clock wall kind number message list out r out'
    → Stepped old new r out out' (step (worker_in old) (at clock wall) (answer_of kind number message list) (length out))
step_said old new clock wall kind number message list out r out' h = rw (← h.given_is, ← h.mem_is, ← h.mem_left, ← h.lent_is, ← h.lent_left) h.met

-- ---- looks

pub state_said : (mem : List ℕ) (r : StateLook) → StateMet mem r → r ≡ state_look mem
state_said mem r h = rw (← h.mem_is) h.met

pub stats_said : (mem : List ℕ) (r : StatsLook) → StatsMet mem r → r ≡ stats_look mem
stats_said mem r h = rw (← h.mem_is) h.met

pub counts_said : (mem : List ℕ) (r : CountsLook) → CountsMet mem r → r ≡ counts_look mem
counts_said mem r h = rw (← h.mem_is) h.met

pub groups_said : (mem out : List ℕ) (r : ListLook) (out' : List ℕ) → GroupsMet mem out r out'
    → (r ≡ listed (group_check mem out) (group_count (worker_in mem) out))
    × (out' ≡ left_in (group_check mem out) out (group_cells (worker_in mem)))
groups_said mem out r out' h = rw (← h.mem_is, ← h.lent_is, ← h.lent_left) h.met

pub table_said : (mem out : List ℕ) (r : ListLook) (out' : List ℕ) → TableMet mem out r out'
    → (r ≡ listed (table_check mem out) (table_count (worker_in mem) out))
    × (out' ≡ left_in (table_check mem out) out (records (row_cells (worker_in mem).board) (worker_in mem).board.table.order))
table_said mem out r out' h = rw (← h.mem_is, ← h.lent_is, ← h.lent_left) h.met

pub panel_said : (mem out : List ℕ) (r : ListLook) (out' : List ℕ) → PanelMet mem out r out'
    → (r ≡ listed (panel_code mem out) (panel_count (worker_in mem) out))
    × (out' ≡ panel_left (panel_code mem out) out (panel_bytes (worker_in mem)))
panel_said mem out r out' h = rw (← h.mem_is, ← h.lent_is, ← h.lent_left) h.met

pub tag_said : (mem : List ℕ) (tag : ℕ) (r : TagLook) → TagMet mem tag r → r ≡ tag_look mem tag
tag_said mem tag r h = rw (← h.mem_is) h.met

-- ---- no entry point has a `requires`

pub ready_said : (c : Call) (old : List ℕ) → Asked c old
unfolding Asked
ready_said (tier clock tag to) old = λ κs mem e0. tt
ready_said (load clock list) old = λ κs given mem e0 e1. tt
ready_said (steps clock wall kind number message list out) old = λ κs given mem lent e0 e1 e2. tt
ready_said (write tag kind word) old = λ κs mem e0. tt
ready_said stop old = λ κs mem e0. tt
ready_said (look look_state) old = λ κs mem e0. tt
ready_said (look look_stats) old = λ κs mem e0. tt
ready_said (look look_counts) old = λ κs mem e0. tt
ready_said (look (look_groups out)) old = λ κs mem lent e0 e1. tt
ready_said (look (look_table out)) old = λ κs mem lent e0 e1. tt
ready_said (look (look_panel out)) old = λ κs mem lent e0 e1. tt
ready_said (look (look_tag tag)) old = λ κs mem e0. tt
