-- Creation has a result for every setup, since the code meets its contract; and every list of calls has a history from there on.
use mathlib.Core.Path.{◌≡◌, refl, sym, ◌∙◌, subst}
use mathlib.Core.Logic.{∥∥₁_prop, ∥∥₁_elim, ∥∥₁_map}
use mathlib.Core.List.{[], ◌∷◌}
use Prim.Native.Nat.{ℕ, ◌<◌, ◌^◌}
use native.Mathlib.Nat.{mul-one}
use native.Mathlib.Omega.{arith}
use lib.ListN.{length}
use borrow.Author.Tests.{ne_eqb, eq-eqb, le-ltb}
use denote.Builtin.{u8}
use denote.Slice.{Room}
use Rattle.names.specs.Directory.{max_names}
use Rattle.checks.specs.Creation.{Setup, creation_check}
use Rattle.capi.specs.Memory.{memory_size}
use Rattle.capi.specs.Creation.{creation_answer}
use Rattle.turns.specs.EntryContracts.{CreateMet}
use Rattle.turns.specs.Demand.{Claim}
use Rattle.possible.specs.Typed.{EveryList}
use Rattle.possible.specs.Creations.{TypedSetup, EveryCreation, EveryEngine}
use Rattle.possible.proofs.PossibleLaws.{ref, mut_ref, every_list}
use Rattle.possible.proofs.CreateRuns.{InRange, create_has}
use Rattle.turns.proofs.CallLaws.{names_some, names_few}
use Rattle.turns.proofs.ClaimLaws.{demand_3}

-- a lendable list has room
has_room : (n : ℕ) → n < 2 ^ 63 → Room u8 n
has_room n h = (omega arith, subst (λ (k : ℕ). k < 2 ^ 63) (sym (mul-one n)) h)

-- typed values are values that the functions take
in_range : (s : Setup) → TypedSetup s → InRange s
in_range s t = record {
  names_fit = t.names_typed.0;
  names_room = has_room (length s.names) t.names_typed.1;
  ends_fit = t.ends_typed;
  ends_room = (omega (arith, t.ends_lendable), t.ends_lendable);
  cycle_fits = t.cycle_typed;
  period_fits = t.period_typed;
  grace_fits = t.grace_typed;
  settings_fit = t.settings_typed.0;
  settings_room = has_room (length s.settings) t.settings_typed.1;
  groups_fit = t.groups_typed.0;
  groups-room = has_room (length s.groups) t.groups_typed.1;
}

-- creation answers 0 where its checks refuse nothing, in memory of that size
accepted : (s : Setup) (n : ℕ) → n ≡ memory_size (length s.ends) → creation_check s ≡ 0 → creation_answer s n ≡ 0
unfolding creation_answer
accepted s n size e =
    let count = length s.ends in
    let some = names_some s e in
    rw (ne_eqb count 0 (λ z. omega (arith, some)), le-ltb max_names count (names_few s e), eq-eqb n (memory_size count) size) e

-- Creation has a result.
pub every_creation : EveryCreation
unfolding EveryCreation
every_creation s t mem l =
    ∥∥₁_map (create_has mem l.0 (has_room (length mem) l.1) s (in_range s t)) (λ y. (
      y.1,
      y.0,
      record {
        lifetimes = (0 ∷ [], (1 ∷ [], (2 ∷ [], (3 ∷ [], tt))));
        names = ref s.names;
        ends = ref s.ends;
        settings = ref s.settings;
        groups = ref s.groups;
        mem = mut_ref mem;
        mem_exit = mut_ref y.1;
        names_is = refl;
        ends_is = refl;
        settings_is = refl;
        groups_is = refl;
        mem_is = refl;
        mem_left = refl;
        met = y.2;
      },
      (y.3, subst (λ (n : ℕ). n < 2 ^ 63) (sym y.2.long) l.1),
      λ h e. y.2.code ∙ accepted s (length mem) h e,
    ))

-- Every list of calls has a history from an engine on that creation made, and demand 3 holds of it.
pub every_engine : EveryEngine
unfolding EveryEngine EveryCreation EveryList Claim
every_engine s t e mem l size cs c =
    ∥∥₁_elim (every_creation s t mem l) ∥∥₁_prop (λ y.
    let made : CreateMet s mem y.0 0 = subst (λ (r : ℕ). CreateMet s mem y.0 r) (y.4 size e) y.2 in
    ∥∥₁_map (every_list cs c y.0 y.3) (λ h. (y.0, h.0, made, h.1, h.2, demand_3 s mem y.0 made h.0 h.2)))
