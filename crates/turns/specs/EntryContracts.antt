-- The contracts of the entry points, by call. `Learnt` of an entry point's `Reads` is the reading of its `ensures`: at the lifetimes, the arguments, the result,
-- and the parameters at exit. A lent slice is a reference (`Bor`, and `MutBor` where it may be written); what stands behind it is its `now`. `Asked` is the reading of the `requires`.
-- The engine's memory holds `old` before and `new` after a call; `out` is a lent list before and `out'` after it.
use Rattle.std.specs.Prelude.{◌≡◌, List, ℕ, Float, ℤ}
use contract.Lifetimes.{Lfts}
use Rattle.std.specs.Borrow.{Bor}
use denote.MutBor.{MutBor}
use Rattle.replies.specs.declared.reply.Reply.{Reply}
use Rattle.shown.specs.declared.head.StateLook.{StateLook}
use Rattle.shown.specs.declared.head.StatsLook.{StatsLook}
use Rattle.shown.specs.declared.counts.CountsLook.{CountsLook}
use Rattle.shown.specs.declared.list_looks.ListLook.{ListLook}
use Rattle.shown.specs.declared.tag.TagLook.{TagLook}
use Rattle.checks.specs.Creation.{Setup}
use Rattle.capi.proofs.creation.wz_create.Reads as create-contract
use Rattle.capi.proofs.calls.wz_set_tier.Reads as tier-contract
use Rattle.capi.proofs.calls.wz_load.Reads as load-contract
use Rattle.capi.proofs.calls.wz_write.Reads as write-contract
use Rattle.capi.proofs.calls.wz_stop.Reads as stop-contract
use Rattle.capi.proofs.calls.wz_step.Reads as step-contract
use Rattle.capi.proofs.looks.wz_state.Reads as state-contract
use Rattle.capi.proofs.looks.wz_stats.Reads as stats-contract
use Rattle.capi.proofs.looks.wz_tier_counts.Reads as counts-contract
use Rattle.capi.proofs.looks.wz_group_stats.Reads as groups-contract
use Rattle.capi.proofs.looks.wz_table.Reads as table-contract
use Rattle.capi.proofs.looks.wz_panel.Reads as panel-contract
use Rattle.capi.proofs.looks.wz_tag.Reads as tag-contract
use Rattle.turns.specs.Calls.{Call, tier, load, steps, write, stop, look, look_state, look_stats, look_counts, look_groups, look_table, look_panel, look_tag, Answer, number_is, told, state_is, stats_are, counts_are, list_is, tag_is}

-- ---- an entry point was called and came back with r

pub record CreateMet (s : Setup) (old new : List ℕ) (r : ℕ) : Type 0 where
  pub lifetimes : Lfts 4
  pub names : Bor (List ℕ)
  pub ends : Bor (List ℕ)
  pub settings : Bor (List ℕ)
  pub groups : Bor (List ℕ)
  pub mem : MutBor (List ℕ)
  pub mem_exit : MutBor (List ℕ)
  pub names_is : names.now ≡ s.names
  pub ends_is : ends.now ≡ s.ends
  pub settings_is : settings.now ≡ s.settings
  pub groups_is : groups.now ≡ s.groups
  pub mem_is : mem.now ≡ old
  pub mem_left : mem_exit.now ≡ new
  pub met : create-contract.Learnt lifetimes (mem, (names, (ends, (s.options, (settings, (groups, tt)))))) r (mem_exit, (names, (ends, (s.options, (settings, (groups, tt))))))

pub record TierMet (old new : List ℕ) (clock : Float) (tag to r : ℕ) : Type 0 where
  pub lifetimes : Lfts 1
  pub mem : MutBor (List ℕ)
  pub mem_exit : MutBor (List ℕ)
  pub mem_is : mem.now ≡ old
  pub mem_left : mem_exit.now ≡ new
  pub met : tier-contract.Learnt lifetimes (mem, (clock, (tag, (to, tt)))) r (mem_exit, (clock, (tag, (to, tt))))

pub record LoadMet (old new : List ℕ) (clock : Float) (list : List ℕ) (r : ℕ) : Type 0 where
  pub lifetimes : Lfts 2
  pub given : Bor (List ℕ)
  pub mem : MutBor (List ℕ)
  pub mem_exit : MutBor (List ℕ)
  pub given_is : given.now ≡ list
  pub mem_is : mem.now ≡ old
  pub mem_left : mem_exit.now ≡ new
  pub met : load-contract.Learnt lifetimes (mem, (clock, (given, tt))) r (mem_exit, (clock, (given, tt)))

pub record WriteMet (old new : List ℕ) (tag kind word r : ℕ) : Type 0 where
  pub lifetimes : Lfts 1
  pub mem : MutBor (List ℕ)
  pub mem_exit : MutBor (List ℕ)
  pub mem_is : mem.now ≡ old
  pub mem_left : mem_exit.now ≡ new
  pub met : write-contract.Learnt lifetimes (mem, (tag, (kind, (word, tt)))) r (mem_exit, (tag, (kind, (word, tt))))

pub record StopMet (old new : List ℕ) (r : ℕ) : Type 0 where
  pub lifetimes : Lfts 1
  pub mem : MutBor (List ℕ)
  pub mem_exit : MutBor (List ℕ)
  pub mem_is : mem.now ≡ old
  pub mem_left : mem_exit.now ≡ new
  pub met : stop-contract.Learnt lifetimes (mem, tt) r (mem_exit, tt)

pub record StepMet (old new : List ℕ) (clock : Float) (wall : ℤ) (kind number message : ℕ) (list out : List ℕ) (r : Reply) (out' : List ℕ) : Type 0 where
  pub lifetimes : Lfts 3
  pub given : Bor (List ℕ)
  pub mem : MutBor (List ℕ)
  pub mem_exit : MutBor (List ℕ)
  pub lent : MutBor (List ℕ)
  pub lent_exit : MutBor (List ℕ)
  pub given_is : given.now ≡ list
  pub mem_is : mem.now ≡ old
  pub mem_left : mem_exit.now ≡ new
  pub lent_is : lent.now ≡ out
  pub lent_left : lent_exit.now ≡ out'
  pub met : step-contract.Learnt lifetimes (mem, (clock, (wall, (kind, (number, (message, (given, (lent, tt)))))))) r (mem_exit, (clock, (wall, (kind, (number, (message, (given, (lent_exit, tt))))))))

pub record StateMet (old : List ℕ) (r : StateLook) : Type 0 where
  pub lifetimes : Lfts 1
  pub mem : Bor (List ℕ)
  pub mem_is : mem.now ≡ old
  pub met : state-contract.Learnt lifetimes (mem, tt) r (mem, tt)

pub record StatsMet (old : List ℕ) (r : StatsLook) : Type 0 where
  pub lifetimes : Lfts 1
  pub mem : Bor (List ℕ)
  pub mem_is : mem.now ≡ old
  pub met : stats-contract.Learnt lifetimes (mem, tt) r (mem, tt)

pub record CountsMet (old : List ℕ) (r : CountsLook) : Type 0 where
  pub lifetimes : Lfts 1
  pub mem : Bor (List ℕ)
  pub mem_is : mem.now ≡ old
  pub met : counts-contract.Learnt lifetimes (mem, tt) r (mem, tt)

pub record GroupsMet (old out : List ℕ) (r : ListLook) (out' : List ℕ) : Type 0 where
  pub lifetimes : Lfts 2
  pub mem : Bor (List ℕ)
  pub lent : MutBor (List ℕ)
  pub lent_exit : MutBor (List ℕ)
  pub mem_is : mem.now ≡ old
  pub lent_is : lent.now ≡ out
  pub lent_left : lent_exit.now ≡ out'
  pub met : groups-contract.Learnt lifetimes (mem, (lent, tt)) r (mem, (lent_exit, tt))

pub record TableMet (old out : List ℕ) (r : ListLook) (out' : List ℕ) : Type 0 where
  pub lifetimes : Lfts 2
  pub mem : Bor (List ℕ)
  pub lent : MutBor (List ℕ)
  pub lent_exit : MutBor (List ℕ)
  pub mem_is : mem.now ≡ old
  pub lent_is : lent.now ≡ out
  pub lent_left : lent_exit.now ≡ out'
  pub met : table-contract.Learnt lifetimes (mem, (lent, tt)) r (mem, (lent_exit, tt))

pub record PanelMet (old out : List ℕ) (r : ListLook) (out' : List ℕ) : Type 0 where
  pub lifetimes : Lfts 2
  pub mem : Bor (List ℕ)
  pub lent : MutBor (List ℕ)
  pub lent_exit : MutBor (List ℕ)
  pub mem_is : mem.now ≡ old
  pub lent_is : lent.now ≡ out
  pub lent_left : lent_exit.now ≡ out'
  pub met : panel-contract.Learnt lifetimes (mem, (lent, tt)) r (mem, (lent_exit, tt))

pub record TagMet (old : List ℕ) (tag : ℕ) (r : TagLook) : Type 0 where
  pub lifetimes : Lfts 1
  pub mem : Bor (List ℕ)
  pub mem_is : mem.now ≡ old
  pub met : tag-contract.Learnt lifetimes (mem, (tag, tt)) r (mem, (tag, tt))

-- ---- by call

-- The call c could be made on the memory `old`: the `requires` of its entry point holds, whatever the references are.
unfoldable pub Asked : Call → List ℕ → Type 0
Asked (tier clock tag to) old = (κs : Lfts 1) (mem : MutBor (List ℕ)) → mem.now ≡ old → tier-contract.Asked κs (mem, (clock, (tag, (to, tt))))
Asked (load clock list) old = (κs : Lfts 2) (given : Bor (List ℕ)) (mem : MutBor (List ℕ)) → given.now ≡ list → mem.now ≡ old → load-contract.Asked κs (mem, (clock, (given, tt)))
Asked (steps clock wall kind number message list out) old = (κs : Lfts 3) (given : Bor (List ℕ)) (mem lent : MutBor (List ℕ)) → given.now ≡ list → mem.now ≡ old → lent.now ≡ out → step-contract.Asked κs (mem, (clock, (wall, (kind, (number, (message, (given, (lent, tt))))))))
Asked (write tag kind word) old = (κs : Lfts 1) (mem : MutBor (List ℕ)) → mem.now ≡ old → write-contract.Asked κs (mem, (tag, (kind, (word, tt))))
Asked stop old = (κs : Lfts 1) (mem : MutBor (List ℕ)) → mem.now ≡ old → stop-contract.Asked κs (mem, tt)
Asked (look look_state) old = (κs : Lfts 1) (mem : Bor (List ℕ)) → mem.now ≡ old → state-contract.Asked κs (mem, tt)
Asked (look look_stats) old = (κs : Lfts 1) (mem : Bor (List ℕ)) → mem.now ≡ old → stats-contract.Asked κs (mem, tt)
Asked (look look_counts) old = (κs : Lfts 1) (mem : Bor (List ℕ)) → mem.now ≡ old → counts-contract.Asked κs (mem, tt)
Asked (look (look_groups out)) old = (κs : Lfts 2) (mem : Bor (List ℕ)) (lent : MutBor (List ℕ)) → mem.now ≡ old → lent.now ≡ out → groups-contract.Asked κs (mem, (lent, tt))
Asked (look (look_table out)) old = (κs : Lfts 2) (mem : Bor (List ℕ)) (lent : MutBor (List ℕ)) → mem.now ≡ old → lent.now ≡ out → table-contract.Asked κs (mem, (lent, tt))
Asked (look (look_panel out)) old = (κs : Lfts 2) (mem : Bor (List ℕ)) (lent : MutBor (List ℕ)) → mem.now ≡ old → lent.now ≡ out → panel-contract.Asked κs (mem, (lent, tt))
Asked (look (look_tag tag)) old = (κs : Lfts 1) (mem : Bor (List ℕ)) → mem.now ≡ old → tag-contract.Asked κs (mem, (tag, tt))

-- The call c on the memory `old` answered a and left the memory `new`. A look is lent the memory to read, so that it stays as it is.
unfoldable pub Learnt : Call → List ℕ → Answer → List ℕ → Type 0
Learnt (tier clock tag to) old a new = (r : ℕ) × (a ≡ number_is r) × TierMet old new clock tag to r
Learnt (load clock list) old a new = (r : ℕ) × (a ≡ number_is r) × LoadMet old new clock list r
Learnt (steps clock wall kind number message list out) old a new =
    (r : Reply) × (out' : List ℕ) × (a ≡ told r out') × StepMet old new clock wall kind number message list out r out'
Learnt (write tag kind word) old a new = (r : ℕ) × (a ≡ number_is r) × WriteMet old new tag kind word r
Learnt stop old a new = (r : ℕ) × (a ≡ number_is r) × StopMet old new r
Learnt (look look_state) old a new = (r : StateLook) × (a ≡ state_is r) × (new ≡ old) × StateMet old r
Learnt (look look_stats) old a new = (r : StatsLook) × (a ≡ stats_are r) × (new ≡ old) × StatsMet old r
Learnt (look look_counts) old a new = (r : CountsLook) × (a ≡ counts_are r) × (new ≡ old) × CountsMet old r
Learnt (look (look_groups out)) old a new = (r : ListLook) × (out' : List ℕ) × (a ≡ list_is r out') × (new ≡ old) × GroupsMet old out r out'
Learnt (look (look_table out)) old a new = (r : ListLook) × (out' : List ℕ) × (a ≡ list_is r out') × (new ≡ old) × TableMet old out r out'
Learnt (look (look_panel out)) old a new = (r : ListLook) × (out' : List ℕ) × (a ≡ list_is r out') × (new ≡ old) × PanelMet old out r out'
Learnt (look (look_tag tag)) old a new = (r : TagLook) × (a ≡ tag_is r) × (new ≡ old) × TagMet old tag r
