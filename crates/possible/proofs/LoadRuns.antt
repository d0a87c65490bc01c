-- A load has a result.
use mathlib.Core.Path.{◌≡◌, refl}
use mathlib.Core.Bool.{true}
use mathlib.Core.Logic.{∥∥₁_map}
use Prim.Native.Nat.{ℕ}
use mathlib.Core.List.{List, [], ◌∷◌}
use seplogic.Ra.Ura.{Ura}
use base.Fraction.{full_share}
use lib.Ieee.{Float, binary64, fits}
use lib.ListN.{length}
use mir.Syntax.{named, w8}
use mir.Val.{Val, vfloat}
use base.Logic.{SProp, ent, sep, ex, emp, via, mono_r, ex_i}
use base.Fml.{GName, flft, flent}
use prog.Memory.{Memory}
use prog.Wp.{run}
use prog.Model.{Model, AllFit}
use prog.AdequacyRun.{start_mem}
use prog.Routine.{Routine}
use types.Logic.{Logic, sem}
use ghost.Model as Closed
use types.Kit.{‵, raw, ◌⊛◌, some, later, ◌$◌, ◌∵◌, !, qed, move, use1, use2, split, join, pick, suffices, frame, await, updating, now as at_once, done}
use types.Share.{arr_parts}
use types.Tokens.{lft_new}
use contract.Lifetimes.{Lfts}
use contract.Monad.{fact}
use contract.Running.{Running}
use contract.Closed.{model⁺, real⁺, real⁺_strict}
use contract.BorrowModel.{logic₀}
use contract.Adequate.{Satisfies, start_Satisfies, sat_weaken}
use denote.Builtin.{u8, u32, f64, SliceRefOf, SliceRefMutOf}
use denote.Exit as Exit
use denote.Lend.{Held}
use denote.Memory.{shares}
use denote.Shadow.{pure_i}
use denote.Signature.{Signature, plain}
use denote.Slice.{slice_val, MutSlice, ShrSlice, Room}
use denote.Steps.{nothing}
use denote.Triple.Entry.{on_entry, Args, Vals}
use denote.Triple.End.{Kepts, lasts_of}
use denote.Triple.Spec.{Spec, triple_of, Meets, exits}
use Rattle.possible.proofs.World.{running, wz_load_wired}
use Rattle.possible.proofs.RunLaws.{Strict, has_result, with_emp, lent_mut, lent_shr, taken_back, good_left}
use Rattle.capi.specs.Memory.{worker_in, Called}
use Rattle.checks.specs.Calls.{load_check}
use Rattle.capi.specs.Calls.{loaded}
use Rattle.capi.proofs.calls.wz_load.Met as load

abbrev S : Signature
S = record {
  lifetimes = 2;
  outlives = [];
  params = SliceRefMutOf {n = 2} (0 ∷ []) tt (plain {n = 2} (λ κs. u8)) (λ κs. tt) ∷ plain {n = 2} (λ κs. f64) ∷ SliceRefOf {n = 2} (1 ∷ []) tt (plain {n = 2} (λ κs. u8)) (λ κs. tt) ∷ [];
  result = plain {n = 2} (λ κs. u32);
}

abbrev ks : Kepts S.params
ks = (Exit.yes, (Exit.yes, (Exit.yes, tt)))

abbrev Q : List ℕ → Float → List ℕ → ℕ → List ℕ → Type 0
Q old clock list r new = Called old new r (load_check (worker_in old) clock list) (loaded (worker_in old) clock list)

abbrev spec : {M : Type 1} {𝓤 : Ura M} (𝓛 : Logic 𝓤) → Spec 𝓤 S
spec {𝓤 = 𝓤} 𝓛 κs a = record {
  ghost = Unit {0};
  requires = λ g. emp 𝓤;
  ensures = λ g r. exits 𝓛 S ks κs a (λ e. fact 𝓤 (Q a.0.now a.1.0 a.1.1.0.now r e.0.now));
}

module _ {M : Type 1} {𝓤 : Ura M} (𝓛 : Logic 𝓤) (𝓜 : Model 𝓤 𝓛.H) (xs list : List ℕ) (room : Room u8 (length xs)) (room' : Room u8 (length list))
    (clock : Float) (fc : fits binary64 clock ≡ true) where
  -- the lifetime and the name of the memory, and the lifetime of the list
  open 𝓛 use {H, A}

  abbrev X : Type 0
  X = (ℕ × GName) × ℕ

  abbrev κs : X → Lfts 2
  κs x = (x.0.0 ∷ [], (x.1 ∷ [], tt))

  abbrev args : (x : X) → Args S (κs x)
  args x = (record { ref_ptr = (0, 0); ghost_name = x.0.1; now = xs }, (clock, (record { ref_ptr = (1, 0); now = list }, tt)))

  abbrev vals : (x : X) → Vals S (κs x)
  vals x = (slice_val (0, 0) (length xs) ∷ [], (vfloat binary64 clock ∷ [], (slice_val (1, 0) (length list) ∷ [], tt)))

  abbrev bound : X → (triple_of 𝓛 S (spec 𝓛)).Ghost
  bound x = ((κs x, (full_share, (full_share, tt)), tt, args x, vals x), tt)

  abbrev Loan : X → SProp 𝓤
  Loan x = A.lent (x.0.0 ∷ []) (Held u8 (length xs) 0 0 x.0.1)

  abbrev Read : X → SProp 𝓤
  Read x = A.lent (x.1 ∷ []) ((arr_parts (shares u8) (length list)).part full_share list 1 0)

  abbrev Aside : X → SProp 𝓤
  Aside x = sep 𝓤 (Loan x) (Read x)

  abbrev Entry : X → SProp 𝓤
  Entry x = on_entry 𝓛 S (κs x) (full_share, (full_share, tt)) (args x) (vals x)

  abbrev Asked : X → SProp 𝓤
  Asked x = (triple_of 𝓛 S (spec 𝓛)).pre (bound x)

  abbrev Start : SProp 𝓤
  Start = sep 𝓤 (run 𝓤 H full_share w8 0 0 xs) (run 𝓤 H full_share w8 1 0 list)

  -- the memory and the list are lent
  lends : ent 𝓤 Start (H.⇛ (ex 𝓤 (λ (x : X). sep 𝓤 (Aside x) (Asked x))))
  lends =
      qed 𝓛 (raw (run 𝓤 H full_share w8 0 0 xs) ∷ raw (run 𝓤 H full_share w8 1 0 list) ∷ []) ∵ updating ! $
      lft_new ! tt (λ α. lft_new ! tt (λ β. move ! (2 ∷ []) $
      use1 𝓛 (later (some (λ (δ : GName). ‵ ((MutSlice (named 0) (α ∷ []) u8).own_val (record { ref_ptr = (0, 0); ghost_name = δ; now = xs }) (slice_val (0, 0) (length xs) ∷ [])) ⊛ ‵ (flent (α ∷ []) (Held u8 (length xs) 0 0 δ)))))
      (lent_mut 𝓛 𝓜 0 0 α 0 xs room) $ await ! tt $ pick ! (λ δ. split ! $ move ! (4 ∷ 2 ∷ []) $
      use2 𝓛 (later ((‵ ((ShrSlice (named 1) (β ∷ []) u8).own_val (record { ref_ptr = (1, 0); now = list }) (slice_val (1, 0) (length list) ∷ []))
      ⊛ ‵ (flent (β ∷ []) ((arr_parts (shares u8) (length list)).part full_share list 1 0))) ⊛ ‵ (flft (β ∷ []) full_share)))
      (lent_shr 𝓛 𝓜 1 1 β 0 list room') $ await ! tt $ split ! $ split ! $ move ! (0 ∷ 1 ∷ 3 ∷ 4 ∷ 2 ∷ []) $ at_once ! $
      suffices ! (sep 𝓤 (Aside ((α, δ), β)) (Entry ((α, δ), β)))
      (via 𝓤 (sep 𝓤 (Aside ((α, δ), β)) (Asked ((α, δ), β))) (mono_r 𝓤 (Aside ((α, δ), β)) (with_emp 𝓛 𝓜 (Entry ((α, δ), β))))
      (ex_i 𝓤 (λ (x : X). sep 𝓤 (Aside x) (Asked x)) ((α, δ), β))) $
      -- [list; its loan; memory; its loan; β; α]
      move ! (3 ∷ 1 ∷ 5 ∷ 4 ∷ 2 ∷ 0 ∷ []) $ join ! $ frame ! $
      nothing ! $ move ! (2 ∷ 0 ∷ []) $ join ! $ move ! (1 ∷ 0 ∷ []) $ join ! $ frame ! $
      frame ! $ pure_i ! (f64.own_val clock (vfloat binary64 clock ∷ [])) (tt, tt) (refl, fc) $ frame ! $ nothing ! $ move ! (1 ∷ 0 ∷ []) $ done !)))

  -- the memory is taken back
  takes : (x : X) (v : Val) → ent 𝓤 (sep 𝓤 ((triple_of 𝓛 S (spec 𝓛)).post (bound x) v) (Aside x))
      (H.⇛ (ex 𝓤 (λ (y : ℕ × List ℕ). sep 𝓤 (run 𝓤 H full_share w8 0 0 y.1) (fact 𝓤 (Q xs clock list y.0 y.1)))))
  takes x v =
      taken_back 𝓛 𝓜 0 0 xs ℕ (List ℕ) (List ℕ × (Unit {0} × (Unit {0} × Unit {0}))) (λ l. l.0) (λ z. z) (λ r. sem 𝓛 (u32.own_val r (v ∷ [])))
      (sep 𝓤 (A.lft (x.1 ∷ []) full_share) (emp 𝓤)) (Read x)
      (λ l. lasts_of (κs x) (plain {n = 2} (λ κs. f64) ∷ SliceRefOf {n = 2} (1 ∷ []) tt (plain {n = 2} (λ κs. u8)) (λ κs. tt) ∷ []) ks.1 (args x).1 l.1)
      (λ r z. Q xs clock list r z) x.0.0 x.0.1

  -- so there is a result, in every model
  result : (𝓡 : Running 𝓤 H 𝓜) → Strict 𝓛 𝓜 𝓡 → (ρ : Routine) → Meets 𝓛 S (𝓡.run ρ) (spec 𝓛) → (σ : Memory) → Satisfies 𝓤 H 𝓜 σ (sep 𝓤 Start (emp 𝓤))
      → ∥ ((y : ℕ × List ℕ) × (Q xs clock list y.0 y.1 × AllFit w8 y.1)) ∥₁
  result 𝓡 strict ρ met σ s =
      has_result 𝓛 𝓜 𝓡 strict ρ (triple_of 𝓛 S (spec 𝓛)) met X bound Aside Start lends (ℕ × List ℕ)
      (λ y. sep 𝓤 (run 𝓤 H full_share w8 0 0 y.1) (fact 𝓤 (Q xs clock list y.0 y.1))) takes
      (λ y. Q xs clock list y.0 y.1 × AllFit w8 y.1) (λ y. good_left 𝓛 𝓜 0 0 y.1 (Q xs clock list y.0 y.1)) σ (emp 𝓤) s

-- at the closed model, from a memory that holds the bytes
pub load_has : (xs : List ℕ) → AllFit w8 xs → Room u8 (length xs) → (clock : Float) → fits binary64 clock ≡ true → (list : List ℕ) → AllFit w8 list → Room u8 (length list)
    → ∥ ((r : ℕ) × (new : List ℕ) × Q xs clock list r new × AllFit w8 new) ∥₁
load_has xs f g clock c list f' g' =
    ∥∥₁_map (result logic₀ model⁺ xs list g g' clock c real⁺ real⁺_strict _
    (load.met Closed.𝓤 logic₀ model⁺ running wz_load_wired) (start_mem xs list)
    (sat_weaken Closed.𝓤 Closed.H model⁺ (start_mem xs list) (with_emp logic₀ model⁺ _) (start_Satisfies Closed.𝓤 Closed.H model⁺ xs list f f')))
    (λ y. (y.0.0, y.0.1, y.1.0, y.1.1))
