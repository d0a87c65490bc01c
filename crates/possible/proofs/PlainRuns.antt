-- Tier calls, writes and stops have results.
use mathlib.Core.Path.{◌≡◌, refl}
use mathlib.Core.Bool.{true}
use Prim.Native.Nat.{ℕ, ◌<◌, ◌^◌}
use mathlib.Core.List.{List, [], ◌∷◌}
use lib.Ieee.{Float, binary64, fits}
use lib.ListN.{length}
use mir.Syntax.{w8, w32, w64}
use mir.Val.{vint, vfloat}
use prog.Model.{AllFit}
use ghost.Model as Closed
use contract.Closed.{model⁺}
use contract.BorrowModel.{logic₀}
use denote.Builtin.{u8, u32, u64, f64}
use denote.Exit as Exit
use denote.Signature.{plain}
use denote.Slice.{Room}
use Rattle.words.specs.Value.{value_from}
use Rattle.capi.specs.Memory.{worker_in, Called}
use Rattle.checks.specs.Calls.{tier_check, write_check}
use Rattle.capi.specs.Calls.{tiered, wrote, halted}
use Rattle.capi.proofs.calls.wz_set_tier.Met as tier
use Rattle.capi.proofs.calls.wz_write.Met as write
use Rattle.capi.proofs.calls.wz_stop.Met as stop
use Rattle.possible.proofs.World.{running, wz_set_tier_wired, wz_write_wired, wz_stop_wired}
use Rattle.possible.proofs.OneLaws.{one_has}

module _ (xs : List ℕ) (f : AllFit w8 xs) (room : Room u8 (length xs)) where
  -- a result that P allows
  abbrev Has : (ℕ → List ℕ → Type 0) → Type 0
  Has P = ∥ ((r : ℕ) × (new : List ℕ) × P r new × AllFit w8 new) ∥₁

  -- a tier call
  pub tier_has : (clock : Float) (tag to : ℕ) → fits binary64 clock ≡ true → tag < 2 ^ 32 → to < 2 ^ 32
      → Has (λ r new. Called xs new r (tier_check (worker_in xs) clock tag to) (tiered (worker_in xs) clock tag to))
  tier_has clock tag to c t k =
      one_has (plain {n = 1} (λ κs. f64) ∷ plain {n = 1} (λ κs. u32) ∷ plain {n = 1} (λ κs. u32) ∷ []) (Exit.yes, (Exit.yes, (Exit.yes, tt)))
      (λ κs a old r new. Called old new r (tier_check (worker_in old) a.0 a.1.0 a.1.1.0) (tiered (worker_in old) a.0 a.1.0 a.1.1.0))
      (λ κs. (clock, (tag, (to, tt)))) (λ κs. (vfloat binary64 clock ∷ [], (vint w32 tag ∷ [], (vint w32 to ∷ [], tt))))
      (λ κs. ((tt, tt), ((tt, tt), ((tt, tt), tt)))) (λ κs. ((refl, c), ((refl, t), ((refl, k), tt)))) xs room
      (λ r new. Called xs new r (tier_check (worker_in xs) clock tag to) (tiered (worker_in xs) clock tag to)) (λ κs r new. refl)
      f _ (tier.met Closed.𝓤 logic₀ model⁺ running wz_set_tier_wired)

  -- a write
  pub write_has : (tag kind word : ℕ) → tag < 2 ^ 32 → kind < 2 ^ 64 → word < 2 ^ 64
      → Has (λ r new. Called xs new r (write_check (worker_in xs) tag (value_from kind word)) (wrote (worker_in xs) tag (value_from kind word)))
  write_has tag kind word t k w =
      one_has (plain {n = 1} (λ κs. u32) ∷ plain {n = 1} (λ κs. u64) ∷ plain {n = 1} (λ κs. u64) ∷ []) (Exit.yes, (Exit.yes, (Exit.yes, tt)))
      (λ κs a old r new. Called old new r (write_check (worker_in old) a.0 (value_from a.1.0 a.1.1.0)) (wrote (worker_in old) a.0 (value_from a.1.0 a.1.1.0)))
      (λ κs. (tag, (kind, (word, tt)))) (λ κs. (vint w32 tag ∷ [], (vint w64 kind ∷ [], (vint w64 word ∷ [], tt))))
      (λ κs. ((tt, tt), ((tt, tt), ((tt, tt), tt)))) (λ κs. ((refl, t), ((refl, k), ((refl, w), tt)))) xs room
      (λ r new. Called xs new r (write_check (worker_in xs) tag (value_from kind word)) (wrote (worker_in xs) tag (value_from kind word))) (λ κs r new. refl)
      f _ (write.met Closed.𝓤 logic₀ model⁺ running wz_write_wired)

  -- a stop
  pub stop_has : Has (λ r new. Called xs new r 0 (halted (worker_in xs)))
  stop_has =
      one_has [] tt (λ κs a old r new. Called old new r 0 (halted (worker_in old))) (λ κs. tt) (λ κs. tt) (λ κs. tt) (λ κs. tt) xs room
      (λ r new. Called xs new r 0 (halted (worker_in xs))) (λ κs r new. refl) f _ (stop.met Closed.𝓤 logic₀ model⁺ running wz_stop_wired)
