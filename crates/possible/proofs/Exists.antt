-- The claim is not empty: the calls of the example have a history from a memory that creation leaves, and demand 3 holds of it.
use mathlib.Core.Path.{◌≡◌, refl, sym, subst}
use mathlib.Core.Bool.{true}
use mathlib.Core.List.{List, ◌∷◌, ◌++◌}
use mathlib.Core.Logic.{∥∥₁_map}
use Prim.Native.Nat.{ℕ, zero, suc, ◌-◌, ◌<◌, ◌^◌}
use native.Mathlib.Omega.{arith}
use lib.Ieee as ieee
use lib.ListN.{replicate, length-replicate}
use mir.Syntax.{w8}
use prog.Model.{AllFit}
use Rattle.ieee.specs.Round.{float}
use Rattle.histories.specs.Events.{Each}
use Rattle.histories.specs.Histories.{calls, Happened}
use Rattle.board.specs.Layout.{board_size}
use Rattle.capi.specs.Memory.{list_size}
use Rattle.turns.specs.EntryContracts.{Asked, Learnt}
use Rattle.turns.specs.Demand.{History, Demand3, Claim}
use Rattle.possible.specs.Typed.{Lendable, Typed, EveryList}
use Rattle.possible.proofs.PossibleLaws.{every_list}
use Rattle.possible.proofs.StepRuns.{all_fit}
use Rattle.turns.proofs.ClaimLaws.{demand_3}
use Rattle.possible.proofs.Fresh.{setup, head_bytes, board_bytes, lent, fresh, fresh_long, created}
use Rattle.possible.proofs.Example.{step_at, some_calls}

-- zeros are bytes
zeros_fit : (n : ℕ) → AllFit w8 (replicate n 0)
zeros_fit zero = tt
zeros_fit (suc n) = (record { fits = omega arith }, zeros_fit n)

-- they can be lent
zeros : (n : ℕ) → n < 2 ^ 63 → Lendable (replicate n 0)
zeros n h = (zeros_fit n, subst (λ (k : ℕ). k < 2 ^ 63) (sym (length-replicate {A = ℕ} n 0)) h)

-- the steps of the example
step_typed : (n kind : ℕ) → ieee.fits ieee.binary64 (float n) ≡ true → kind < 2 ^ 64 → Typed (step_at n kind)
unfolding Typed
step_typed n kind f k = (f, omega arith, k, omega arith, omega arith, zeros 96 (omega arith), zeros list_size (omega arith))

-- clock readings
float_0 : ieee.fits ieee.binary64 (float 0) ≡ true
unfolding ieee.fits ieee.of_int ieee.round
float_0 = refl

float_1 : ieee.fits ieee.binary64 (float 1) ≡ true
unfolding ieee.fits ieee.of_int ieee.round
float_1 = refl

-- all its calls
all_typed : Each some_calls Typed
unfolding Each Typed
all_typed =
    let s0 : (kind : ℕ) → kind < 2 ^ 64 → Typed (step_at 0 kind) = λ kind k. step_typed 0 kind float_0 k in
    let s1 : (kind : ℕ) → kind < 2 ^ 64 → Typed (step_at 1 kind) = λ kind k. step_typed 1 kind float_1 k in
    ((float_0, omega arith, omega arith), ((float_0, omega arith, omega arith), ((float_0, omega arith, omega arith), (s0 0 (omega arith), (s0 1 (omega arith), (s0 4 (omega arith), (s0 12 (omega arith), (tt, (tt, ((omega arith, omega arith, omega arith), ((float_0, omega arith, omega arith), (s0 6 (omega arith), (s0 12 (omega arith), (s0 12 (omega arith), (s1 11 (omega arith), (s1 12 (omega arith), (s1 1 (omega arith), (s1 4 (omega arith), (s1 12 (omega arith), tt)))))))))))))))))))

-- a byte before bytes
one_more : (y : ℕ) (ys : List ℕ) → y < 256 → AllFit w8 ys → AllFit w8 (y ∷ ys)
one_more y ys h f = (record { fits = h }, f)

-- zeros before bytes
zeros_then : (n : ℕ) (zs : List ℕ) → AllFit w8 zs → AllFit w8 (replicate n 0 ++ zs)
zeros_then n zs f = all_fit (replicate n 0) zs (zeros_fit n) f

-- the memory that creation leaves
fresh_lendable : Lendable fresh
fresh_lendable = (
  all_fit head_bytes board_bytes
      (zeros_then 6 (240 ∷ 63 ∷ replicate 7 0 ++ (64 ∷ replicate 40 0 ++ (3 ∷ replicate 199 0)))
      (one_more 240 (63 ∷ replicate 7 0 ++ (64 ∷ replicate 40 0 ++ (3 ∷ replicate 199 0))) (omega arith)
      (one_more 63 (replicate 7 0 ++ (64 ∷ replicate 40 0 ++ (3 ∷ replicate 199 0))) (omega arith)
      (zeros_then 7 (64 ∷ replicate 40 0 ++ (3 ∷ replicate 199 0)) (one_more 64 (replicate 40 0 ++ (3 ∷ replicate 199 0)) (omega arith)
      (zeros_then 40 (3 ∷ replicate 199 0) (one_more 3 (replicate 199 0) (omega arith) (zeros_fit 199))))))))
      (zeros_then (board_size 3 - 12) (0 ∷ 0 ∷ 1 ∷ 0 ∷ 2 ∷ 0 ∷ replicate 6 0)
      (one_more 0 (0 ∷ 1 ∷ 0 ∷ 2 ∷ 0 ∷ replicate 6 0) (omega arith) (one_more 0 (1 ∷ 0 ∷ 2 ∷ 0 ∷ replicate 6 0) (omega arith) (one_more 1 (0 ∷ 2 ∷ 0 ∷ replicate 6 0) (omega arith)
      (one_more 0 (2 ∷ 0 ∷ replicate 6 0) (omega arith) (one_more 2 (0 ∷ replicate 6 0) (omega arith) (one_more 0 (replicate 6 0) (omega arith) (zeros_fit 6)))))))),
  subst (λ (k : ℕ). k < 2 ^ 63) (sym fresh_long) (omega arith),
)

-- a history of these calls, and the claim of it
pub not_empty : ∥ ((h : History) × (calls h ≡ some_calls) × Happened Asked Learnt fresh h × Demand3 setup fresh h) ∥₁
unfolding EveryList Claim
not_empty = ∥∥₁_map (every_list some_calls all_typed fresh fresh_lendable) (λ y. (y.0, y.1, y.2, demand_3 setup lent fresh created y.0 y.2))
