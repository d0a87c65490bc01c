-- Demand 3: a full turn of S boundary rounds names each tier-2 tag exactly once, and no other tag.
use Rattle.std.specs.Prelude.{◌≡◌, Bool, true, false, cond, List, [], ◌∷◌, ◌++◌, ℕ, length}
use Rattle.lists.specs.Keep.{count}

-- What one call did, as far as demand 3 goes.
--   quiet                    no boundary round, and no tier call or panel load accepted: a look, a write, a stop, a refusal, any other step
--   retiered                 a tier call or a panel load was accepted
--   took ranOut tier2 names  a boundary round took its slice: whether a grace ran out at it, which tags are in tier 2 as the slice is taken (those in grace
--                            included), and the tags of the slice (before those with a missing mark are dropped)
pub data Event : Type 0 where
  quiet : Event
  retiered : Event
  took : (ran_out : Bool) (tier2 : ℕ → Bool) (names : List ℕ) → Event

-- ---- the boundary rounds

-- A boundary round: as in `took`, and whether a tier call or a load was accepted since the boundary round before it.
pub record BoundaryRound : Type 0 where
  pub ran_out : Bool
  pub retiered_since : Bool
  pub tier2 : ℕ → Bool
  pub names : List ℕ

-- The boundary rounds of a list of events, in order; `since` says whether a tier call or a load has been accepted since the last.
unfoldable pub boundary_rounds : (since : Bool) → List Event → List BoundaryRound
boundary_rounds since [] = []
boundary_rounds since (quiet ∷ events) = boundary_rounds since events
boundary_rounds since (retiered ∷ events) = boundary_rounds true events
boundary_rounds since (took ran_out tier2 names ∷ events) =
    record { ran_out = ran_out; retiered_since = since; tier2 = tier2; names = names } ∷ boundary_rounds false events

-- All that the slices of these rounds name.
unfoldable pub all_names : List BoundaryRound → List ℕ
all_names [] = []
all_names (r ∷ rs) = r.names ++ all_names rs

-- P of each element.
unfoldable pub Each : {A : Type 0} → List A → (A → Type 0) → Type 0
Each [] P = Unit {0}
Each (x ∷ xs) P = P x × Each xs P

-- ---- the demand

-- No grace runs out at this round, and no tier call or load is accepted between the round before it and this one.
abbrev pub Undisturbed : BoundaryRound → Type 0
Undisturbed r = (r.ran_out ≡ false) × (r.retiered_since ≡ false)

-- No round but the first is disturbed.
unfoldable pub RestUndisturbed : List BoundaryRound → Type 0
RestUndisturbed [] = Unit {0}
RestUndisturbed (r ∷ rs) = Each rs Undisturbed

-- Demand 3: of S consecutive boundary rounds, wherever they stand, none but the first of them disturbed, the slices together name each tag that is in tier 2
-- exactly once and no other tag; whichever of the S rounds it is whose tier-2 tags are taken.
unfoldable pub EveryTurnOfRounds : (S : ℕ) → List Event → Type 0
EveryTurnOfRounds S events =
    (before turn after : List BoundaryRound) → boundary_rounds false events ≡ before ++ (turn ++ after) → length turn ≡ S → RestUndisturbed turn
    → Each turn (λ (r : BoundaryRound). (t : ℕ) → count t (all_names turn) ≡ cond (r.tier2 t) 1 0)
