-- What the contract of each entry point says, spelt out: `X-said` of the entry point X. `Learnt` is the reading of its `ensures`: at the lifetimes, the arguments, the
-- result, and the parameters at exit. A contract that says less is refused here, beside the code that it is the contract of.
use mathlib.Core.Path.{◌≡◌}
use mathlib.Core.List.{List}
use Prim.Native.Nat.{ℕ}
use contract.Lifetimes.{Lfts}
use denote.Ref.{Bor}
use denote.MutBor.{MutBor}
use lib.Ieee.{Float}
use lib.IntN.{ℤ}
use lib.ListN.{length}
use Rattle.words.specs.Value.{value_from}
use Rattle.heads.specs.declared.options.Options.{Options}
use Rattle.lent.specs.Lent.{wrote_all, records}
use Rattle.replies.specs.Worker.{Worker, at, Told}
use Rattle.replies.specs.Reply as reply
use Rattle.replies.specs.declared.reply.Reply.{Reply}
use Rattle.worker.specs.Steps.{step}
use Rattle.shown.specs.Looks.{listed, left_in, panel_left, row_cells}
use Rattle.shown.specs.declared.head.StateLook.{StateLook}
use Rattle.shown.specs.declared.head.StatsLook.{StatsLook}
use Rattle.shown.specs.declared.counts.CountsLook.{CountsLook}
use Rattle.shown.specs.declared.list_looks.ListLook.{ListLook}
use Rattle.shown.specs.declared.tag.TagLook.{TagLook}
use Rattle.capi.specs.Memory.{size_check, worker_in, Called}
use Rattle.checks.specs.Calls.{tier_check, load_check, write_check}
use Rattle.capi.specs.Calls.{tiered, loaded, wrote, halted, answer_of, Stepped}
use Rattle.checks.specs.Creation.{Setup}
use Rattle.capi.specs.Creation.{creation_answer, fresh_worker, Created}
use Rattle.capi.specs.Looks.{state_look, stats_look, counts_look, group_cells, group_count, group_check, table_count, table_check, panel_bytes, panel_count, panel_code, tag_look}
use Rattle.capi.proofs.creation.wz_create.Reads as create-contract
use Rattle.capi.proofs.calls.wz_set_tier.Reads as tier-contract
use Rattle.capi.proofs.calls.wz_load.Reads as load-contract
use Rattle.capi.proofs.calls.wz_write.Reads as write-contract
use Rattle.capi.proofs.calls.wz_stop.Reads as stop-contract
use Rattle.capi.proofs.calls.wz_step.Reads as step-contract
use Rattle.capi.proofs.looks.wz_state.Reads as state-contract
use Rattle.capi.proofs.looks.wz_stats.Reads as stats-contract
use Rattle.capi.proofs.looks.wz_tier_counts.Reads as counts-contract
use Rattle.capi.proofs.looks.wz_group_stats.Reads as groups-contract
use Rattle.capi.proofs.looks.wz_table.Reads as table-contract
use Rattle.capi.proofs.looks.wz_panel.Reads as panel-contract
use Rattle.capi.proofs.looks.wz_tag.Reads as tag-contract

-- ---- what a call comes to, with no definition of this crate between a reader and the bytes

-- A call whose checks came to n: memory of another length is answered with 100; otherwise the answer is n, and where it is 0 the memory holds the engine W;
-- where it is not 0 every byte is as it was.
pub called_said : (old new : List ℕ) (r n : ℕ) (W : Worker) → Called old new r n W
    → ((size_check (length old) ≡ 0 → ⊥) → r ≡ 100) × (size_check (length old) ≡ 0 → r ≡ n) × (size_check (length old) ≡ 0 → n ≡ 0 → worker_in new ≡ W)
    × ((r ≡ 0 → ⊥) → new ≡ old) × (length new ≡ length old)
called_said old new r n W h = (h.alien, h.code, h.done, h.kept, h.long)

-- Creation: the answer by the number of names, the length of the memory and the checks; where it is 0 the memory holds a fresh engine, and where it is not every byte is as it was.
pub created_said : (old new : List ℕ) (r : ℕ) (s : Setup) → Created old new r s
    → (r ≡ creation_answer s (length old)) × (r ≡ 0 → worker_in new ≡ fresh_worker s) × ((r ≡ 0 → ⊥) → new ≡ old) × (length new ≡ length old)
created_said old new r s h = (h.code, h.done, h.kept, h.long)

-- The same of a step that came to T, with its lent list: the first bytes are T's, all behind them are as they were.
pub stepped_said : (old new : List ℕ) (r : Reply) (out out' : List ℕ) (T : Told) → Stepped old new r out out' T
    → ((size_check (length old) ≡ 0 → ⊥) → r ≡ reply.refused 100) × (size_check (length old) ≡ 0 → r ≡ T.reply) × (size_check (length old) ≡ 0 → worker_in new ≡ T.left)
    × (size_check (length old) ≡ 0 → out' ≡ wrote_all out T.bytes) × ((r.code ≡ 0 → ⊥) → (new ≡ old) × (out' ≡ out)) × (length new ≡ length old)
stepped_said old new r out out' T h = (h.alien, h.reply_is, h.left_is, h.out_is, h.kept, h.long)

-- ---- calls

abbrev setup : List ℕ → List ℕ → Options → List ℕ → List ℕ → Setup
setup names ends options settings groups = record { names = names; ends = ends; options = options; settings = settings; groups = groups }

pub create_said : (κs : Lfts 4) (mem mem' : MutBor (List ℕ)) (names ends settings groups : Bor (List ℕ)) (options : Options) (r : ℕ)
    → create-contract.Learnt κs (mem, (names, (ends, (options, (settings, (groups, tt)))))) r (mem', (names, (ends, (options, (settings, (groups, tt))))))
    → Created mem.now mem'.now r (setup names.now ends.now options settings.now groups.now)
create_said κs mem mem' names ends settings groups options r h = h

pub tier_said : (κs : Lfts 1) (mem mem' : MutBor (List ℕ)) (clock : Float) (tag to r : ℕ) → tier-contract.Learnt κs (mem, (clock, (tag, (to, tt)))) r (mem', (clock, (tag, (to, tt))))
    → Called mem.now mem'.now r (tier_check (worker_in mem.now) clock tag to) (tiered (worker_in mem.now) clock tag to)
tier_said κs mem mem' clock tag to r h = h

pub load_said : (κs : Lfts 2) (mem mem' : MutBor (List ℕ)) (list : Bor (List ℕ)) (clock : Float) (r : ℕ) → load-contract.Learnt κs (mem, (clock, (list, tt))) r (mem', (clock, (list, tt)))
    → Called mem.now mem'.now r (load_check (worker_in mem.now) clock list.now) (loaded (worker_in mem.now) clock list.now)
load_said κs mem mem' list clock r h = h

pub write_said : (κs : Lfts 1) (mem mem' : MutBor (List ℕ)) (tag kind word r : ℕ) → write-contract.Learnt κs (mem, (tag, (kind, (word, tt)))) r (mem', (tag, (kind, (word, tt))))
    → Called mem.now mem'.now r (write_check (worker_in mem.now) tag (value_from kind word)) (wrote (worker_in mem.now) tag (value_from kind word))
write_said κs mem mem' tag kind word r h = h

pub stop_said : (κs : Lfts 1) (mem mem' : MutBor (List ℕ)) (r : ℕ) → stop-contract.Learnt κs (mem, tt) r (mem', tt)
    → Called mem.now mem'.now r 0 (halted (worker_in mem.now))
stop_said κs mem mem' r h = h

pub step_said : (κs : Lfts 3) (mem mem' : MutBor (List ℕ)) (list : Bor (List ℕ)) (out out' : MutBor (List ℕ)) (clock : Float) (wall : ℤ) (kind number message : ℕ) (r : Reply)
    → step-contract.Learnt κs (mem, (clock, (wall, (kind, (number, (message, (list, (out, tt)))))))) r (mem', (clock, (wall, (kind, (number, (message, (list, (out', tt))))))))
    → Stepped mem.now mem'.now r out.now out'.now (step (worker_in mem.now) (at clock wall) (answer_of kind number message list.now) (length out.now))
step_said κs mem mem' list out out' clock wall kind number message r h = h

-- ---- looks

pub state_said : (κs : Lfts 1) (mem : Bor (List ℕ)) (r : StateLook) → state-contract.Learnt κs (mem, tt) r (mem, tt) → r ≡ state_look mem.now
state_said κs mem r h = h

pub stats_said : (κs : Lfts 1) (mem : Bor (List ℕ)) (r : StatsLook) → stats-contract.Learnt κs (mem, tt) r (mem, tt) → r ≡ stats_look mem.now
stats_said κs mem r h = h

pub counts_said : (κs : Lfts 1) (mem : Bor (List ℕ)) (r : CountsLook) → counts-contract.Learnt κs (mem, tt) r (mem, tt) → r ≡ counts_look mem.now
counts_said κs mem r h = h

pub groups_said : (κs : Lfts 2) (mem : Bor (List ℕ)) (out out' : MutBor (List ℕ)) (r : ListLook) → groups-contract.Learnt κs (mem, (out, tt)) r (mem, (out', tt))
    → (r ≡ listed (group_check mem.now out.now) (group_count (worker_in mem.now) out.now))
    × (out'.now ≡ left_in (group_check mem.now out.now) out.now (group_cells (worker_in mem.now)))
groups_said κs mem out out' r h = (h.0, h.1)

pub table_said : (κs : Lfts 2) (mem : Bor (List ℕ)) (out out' : MutBor (List ℕ)) (r : ListLook) → table-contract.Learnt κs (mem, (out, tt)) r (mem, (out', tt))
    → (r ≡ listed (table_check mem.now out.now) (table_count (worker_in mem.now) out.now))
    × (out'.now ≡ left_in (table_check mem.now out.now) out.now (records (row_cells (worker_in mem.now).board) (worker_in mem.now).board.table.order))
table_said κs mem out out' r h = (h.0, h.1)

pub panel_said : (κs : Lfts 2) (mem : Bor (List ℕ)) (out out' : MutBor (List ℕ)) (r : ListLook) → panel-contract.Learnt κs (mem, (out, tt)) r (mem, (out', tt))
    → (r ≡ listed (panel_code mem.now out.now) (panel_count (worker_in mem.now) out.now))
    × (out'.now ≡ panel_left (panel_code mem.now out.now) out.now (panel_bytes (worker_in mem.now)))
panel_said κs mem out out' r h = (h.0, h.1)

pub tag_said : (κs : Lfts 1) (mem : Bor (List ℕ)) (tag : ℕ) (r : TagLook) → tag-contract.Learnt κs (mem, (tag, tt)) r (mem, (tag, tt)) → r ≡ tag_look mem.now tag
tag_said κs mem tag r h = h
