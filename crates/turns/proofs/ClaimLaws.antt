-- Demand 3 holds.
use mathlib.Core.Path.{◌≡◌, refl, ap, sym, ◌∙◌, subst}
use mathlib.Core.List.{List}
use Prim.Native.Nat.{ℕ, ◌≤◌}
use lib.ListN.{length}
use Rattle.ieee.proofs.Bound.{slices_pos}
use Rattle.names.specs.Directory.{names_of, max_names}
use Rattle.names.proofs.DirectoryLaws.{length_names}
use Rattle.histories.proofs.HistoryLaws.{claim}
use Rattle.capi.specs.Memory.{IsEngine, size_check, worker_in}
use Rattle.checks.specs.Creation.{Setup, creation_check}
use Rattle.capi.specs.Creation.{fresh_worker, Created}
use Rattle.capi.proofs.CallLaws.{created_engine}
use Rattle.turns.specs.Calls.{answer, after}
use Rattle.turns.specs.EntryContracts.{Asked, Learnt}
use Rattle.turns.specs.Demand.{event, slices_in, ByName, Claim}
use Rattle.turns.proofs.SoundLaws.{Sound, index_of, listed_of}
use Rattle.turns.proofs.CallLaws.{names_few, sound_fresh, sound_after, respects_after, each_call}
use Rattle.turns.proofs.Said.{create_said}
use Rattle.turns.proofs.ContractLaws.{Fit, ready, said}
use Rattle.turns.proofs.NamedLaws.{by_name_lem}

-- creation answers 0 on an engine's memory alone, and leaves a fresh engine there
module _ (s : Setup) (mem fresh : List ℕ) (m : Created mem fresh 0 s) where
  -- nothing that creation was given is refused, and the memory had the length of an engine's
  made_good : (creation_check s ≡ 0) × IsEngine mem
  made_good = created_engine s (length mem) (sym m.code)

  made_checked : creation_check s ≡ 0
  made_checked = made_good.0

  -- it has that length still
  made_fit : Fit fresh
  made_fit = ap size_check m.long ∙ made_good.1

  -- it holds a fresh engine
  made_fresh : worker_in fresh ≡ fresh_worker s
  made_fresh = m.done refl

  -- its directory has no more names than a directory can have
  made_few : length (names_of s.names s.ends) ≤ max_names
  made_few = rw (length_names s.names s.ends) (names_few s made_checked)

-- Demand 3, of every accepted creation and every list of calls that happened.
pub demand_3 : Claim
unfolding Claim
demand_3 s mem fresh made h p =
    let m = create_said s mem fresh 0 made in
    let ns = names_of s.names s.ends in
    let e = made_fresh s mem fresh m in
    let sound = sound_fresh s (made_checked s mem fresh m) in
    let r =
    claim Asked Learnt worker_in after answer Fit ready said event (slices_in s) index_of listed_of (Sound s.options ns) (sound_after s.options ns)
    (respects_after s.options ns) fresh (made_fit s mem fresh m) (subst (Sound s.options ns) (sym e) sound)
    (rw e (slices_pos s.options.period s.options.cycle)) h p in
    record {
      could = r.0.could;
      same = rw e at r.0.same;
      kept = rw e at r.0.kept;
      turned = rw e at r.1;
      named = each_call s (made_checked s mem fresh m) (ByName s) (by_name_lem s (made_few s mem fresh m)) _;
    }
