-- Checks one after another, the first that refuses is answered.
use mathlib.Core.Path.{◌≡◌, refl, ap, sym, ◌∙◌}
use mathlib.Core.Bool.{false}
use Prim.Native.Nat.{ℕ}
use lib.Dec.{eqb}
use Rattle.refusals.specs.Refusals.{number}
use Rattle.refusals.specs.declared.Refusal.{Refusal}
use Rattle.refusals.proofs.Laws.{not_zero}
use Rattle.checks.specs.Calls.{first}

pub first_refusal : (r : Refusal) (a m : ℕ) → number r ≡ a → number r ≡ first a m
first_refusal r a m e = let t : eqb a 0 ≡ false = ap (λ (n : ℕ). eqb n 0) (sym e) ∙ not_zero r in e ∙ rw t refl

-- the first check is passed, and the others come to n
pub next : (a m n : ℕ) → 0 ≡ a → n ≡ m → n ≡ first a m
next a m n e q = q ∙ rw (← e) refl
