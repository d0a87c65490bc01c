-- What is a turn and what is none.
use mathlib.Core.Path.{◌≡◌, refl, ap, ◌∙◌}
use mathlib.Core.Bool.{Bool, true, false, true≢false}
use mathlib.Core.List.{List, [], ◌∷◌, ◌++◌}
use Prim.Native.Nat.{ℕ}
use native.Mathlib.Omega.{arith}
use lib.Dec.{ltb}
use lib.ListN.{length, length-append}
use Rattle.histories.specs.Events.{Event, quiet, retiered, took, BoundaryRound, boundary_rounds, all_names, Each, RestUndisturbed, EveryTurnOfRounds}

-- S is 2 throughout. A slice with these names, where the tags below n are in tier 2.
abbrev taken : Bool → ℕ → List ℕ → Event
taken ran_out n names = took ran_out (λ (t : ℕ). ltb t n) names

abbrev round : Bool → Bool → ℕ → List ℕ → BoundaryRound
round ran_out since n names = record { ran_out = ran_out; retiered_since = since; tier2 = λ (t : ℕ). ltb t n; names = names }

-- names a tag in the first round and nothing later: shut out
pub nothing_later : EveryTurnOfRounds 2 (taken false 2 (0 ∷ []) ∷ quiet ∷ taken false 2 [] ∷ []) → ⊥
unfolding EveryTurnOfRounds boundary_rounds all_names Each RestUndisturbed
nothing_later turn =
    let e : ◌≡◌ {A = ℕ} 0 1 = (turn [] (round false false 2 (0 ∷ []) ∷ round false false 2 [] ∷ []) [] refl refl ((refl, refl), tt)).0 1 in
    absurd (omega arith)

-- names a tag twice: shut out
pub named_twice : EveryTurnOfRounds 2 (taken false 2 (0 ∷ 1 ∷ []) ∷ taken false 2 (1 ∷ []) ∷ []) → ⊥
unfolding EveryTurnOfRounds boundary_rounds all_names Each RestUndisturbed
named_twice turn =
    let e : ◌≡◌ {A = ℕ} 2 1 = (turn [] (round false false 2 (0 ∷ 1 ∷ []) ∷ round false false 2 (1 ∷ []) ∷ []) [] refl refl ((refl, refl), tt)).0 1 in
    absurd (omega arith)

-- names a tag that is not in tier 2, in the second turn, where a grace runs out and a tier call is accepted before its first round: shut out
pub second_turn : EveryTurnOfRounds 2 (taken false 2 (0 ∷ []) ∷ retiered ∷ taken true 1 (0 ∷ []) ∷ taken false 1 (1 ∷ []) ∷ []) → ⊥
unfolding EveryTurnOfRounds boundary_rounds all_names Each RestUndisturbed
second_turn turn =
    let e : ◌≡◌ {A = ℕ} 1 0 = (turn (round false false 2 (0 ∷ []) ∷ []) (round true true 1 (0 ∷ []) ∷ round false false 1 (1 ∷ []) ∷ []) [] refl refl ((refl, refl), tt)).0 1 in
    absurd (omega arith)

-- a tier call between the rounds: no turn, so nothing is asked of their slices
pub retiered_between : EveryTurnOfRounds 2 (taken false 2 (0 ∷ []) ∷ retiered ∷ taken false 2 [] ∷ [])
unfolding EveryTurnOfRounds boundary_rounds all_names Each RestUndisturbed
retiered_between before [] after e n u = tt
retiered_between before (a ∷ []) after e n u = absurd (omega (arith, n))
retiered_between [] (a ∷ b ∷ []) after e n u = let second : round false true 2 [] ≡ b = cc in absurd (true≢false (ap (λ (r : BoundaryRound). r.retiered_since) second ∙ u.0.1))
retiered_between (x ∷ before) (a ∷ b ∷ []) after e n u =
    let long : ◌≡◌ {A = ℕ} 2 (length (x ∷ before ++ (a ∷ b ∷ after))) = ap length e in
    absurd (omega (arith, length-append before (a ∷ b ∷ after)))
retiered_between before (a ∷ b ∷ c ∷ rs) after e n u = absurd (omega (arith, n))
