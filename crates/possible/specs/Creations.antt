-- Creation has a result for every setup, and so every list of calls has a history from an engine on that creation made.
use Rattle.std.specs.Prelude.{◌≡◌, true, List, ℕ, ◌*◌, ◌<◌, ◌^◌, length}
use Rattle.std.specs.Float.{binary64}
use Rattle.std.specs.Float.Ieee.{fits}
use Rattle.std.specs.Int.{w32}
use prog.Model.{AllFit}
use Rattle.histories.specs.Events.{Each}
use Rattle.histories.specs.Histories.{calls, Happened}
use Rattle.capi.specs.Memory.{memory_size}
use Rattle.checks.specs.Creation.{Setup, creation_check}
use Rattle.turns.specs.Calls.{Call}
use Rattle.turns.specs.EntryContracts.{CreateMet, Asked, Learnt}
use Rattle.turns.specs.Demand.{History, Demand3}
use Rattle.possible.specs.Typed.{Lendable, Typed}

-- What creation is given are values of their types: lists of bytes, a list of u32 that memory can hold, and three f64. Nothing more is asked.
pub record TypedSetup (s : Setup) : Type 0 where
  pub names_typed : Lendable s.names
  pub ends_typed : AllFit w32 s.ends
  pub ends_lendable : length s.ends * 4 < 2 ^ 63
  pub cycle_typed : fits binary64 s.options.cycle ≡ true
  pub period_typed : fits binary64 s.options.period ≡ true
  pub grace_typed : fits binary64 s.options.grace ≡ true
  pub settings_typed : Lendable s.settings
  pub groups_typed : Lendable s.groups

-- Creation has a result: it answers, and leaves a memory. It answers 0 where the memory is as long as that of an engine of so many names and the checks refuse nothing.
unfoldable pub EveryCreation : Type 0
EveryCreation =
    (s : Setup) → TypedSetup s → (mem : List ℕ) → Lendable mem
    → ∥ ((fresh : List ℕ) × (r : ℕ) × CreateMet s mem fresh r × Lendable fresh × (length mem ≡ memory_size (length s.ends) → creation_check s ≡ 0 → r ≡ 0)) ∥₁

-- For every setup that the checks let in and every list of calls there is a memory that creation leaves with the answer 0, and a history of the calls from it on; demand 3 holds of it.
unfoldable pub EveryEngine : Type 0
EveryEngine =
    (s : Setup) → TypedSetup s → creation_check s ≡ 0 → (mem : List ℕ) → Lendable mem → length mem ≡ memory_size (length s.ends) → (cs : List Call) → Each cs Typed
    → ∥ ((fresh : List ℕ) × (h : History) × CreateMet s mem fresh 0 × (calls h ≡ cs) × Happened Asked Learnt fresh h × Demand3 s fresh h) ∥₁
