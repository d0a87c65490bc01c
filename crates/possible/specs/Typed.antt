-- Arguments that a host can pass: numbers that their C types hold, and lists of bytes that memory can hold. No entry point asks for more.
use Rattle.std.specs.Prelude.{◌≡◌, true, List, ℕ, ◌<◌, ◌^◌, length}
use Rattle.std.specs.Float.{binary64}
use Rattle.std.specs.Float.Ieee.{fits}
use Rattle.std.specs.Int.Signed.{mag}
use Rattle.std.specs.Int.{w8}
use prog.Model.{AllFit}
use Rattle.histories.specs.Events.{Each}
use Rattle.histories.specs.Histories.{calls, Happened}
use Rattle.turns.specs.Calls.{Call, tier, load, steps, write, stop, look}
use Rattle.turns.specs.EntryContracts.{Asked, Learnt}
use Rattle.turns.specs.Demand.{History}

-- a list that can be lent: each element is a byte, and it is no longer than memory
abbrev pub Lendable : List ℕ → Type 0
Lendable bs = AllFit w8 bs × (length bs < 2 ^ 63)

-- The arguments of a call are values of their types: f64, i64 (but for its least number), u32, u64, and lists of bytes. Of a look nothing is asked.
unfoldable pub Typed : Call → Type 0
Typed (tier clock tag to) = (fits binary64 clock ≡ true) × (tag < 2 ^ 32) × (to < 2 ^ 32)
Typed (load clock list) = (fits binary64 clock ≡ true) × Lendable list
Typed (steps clock wall kind number message list out) =
    (fits binary64 clock ≡ true) × (mag wall < 2 ^ 63) × (kind < 2 ^ 64) × (number < 2 ^ 64) × (message < 2 ^ 64) × Lendable list × Lendable out
Typed (write tag kind word) = (tag < 2 ^ 32) × (kind < 2 ^ 64) × (word < 2 ^ 64)
Typed stop = Unit {0}
Typed (look l) = Unit {0}

-- Every list of such calls has a history, from every memory on; so the claim of demand 3 is about every list of calls.
unfoldable pub EveryList : Type 0
EveryList = (cs : List Call) → Each cs Typed → (mem : List ℕ) → Lendable mem → ∥ ((h : History) × (calls h ≡ cs) × Happened Asked Learnt mem h) ∥₁
