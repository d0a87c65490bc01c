-- Rule 6, of every call: what it may do to the slice index and to the tier-2 tags, by what it did.
use Rattle.std.specs.Prelude.{◌≡◌, false, cond, List, ℕ}
use Rattle.lists.specs.Keep.{count}
use Rattle.lists.specs.Slices.{slice, next}
use Rattle.histories.specs.Events.{Event, quiet, retiered, took}

module _ {State : Type 0} (S : ℕ) (index : State → ℕ) (listed : State → List ℕ) where
  -- A call that leads from the state s to s'. `index` is the slice index of a state, `listed` its tier-2 tags in slice order.
  --   quiet     keeps both
  --   retiered  keeps the index
  --   took      changes the tier-2 tags only where a grace runs out; then it takes the slice at the index, moves the index on, and the list has each tier-2 tag once
  unfoldable pub Respects : State → Event → State → Type 0
  Respects s quiet s' = (index s' ≡ index s) × (listed s' ≡ listed s)
  Respects s retiered s' = index s' ≡ index s
  Respects s (took ran_out tier2 names) s' =
      (ran_out ≡ false → listed s' ≡ listed s)
      × (names ≡ slice S (listed s') (index s))
      × (index s' ≡ next S (listed s') (index s))
      × ((t : ℕ) → count t (listed s') ≡ cond (tier2 t) 1 0)
