-- A step has a result.
use mathlib.Core.Path.{◌≡◌, refl}
use mathlib.Core.Bool.{true}
use mathlib.Core.Logic.{∥∥₁_map}
use Prim.Native.Nat.{ℕ, ◌<◌, ◌^◌}
use mathlib.Core.List.{List, [], ◌∷◌, ◌++◌}
use seplogic.Ra.Ura.{Ura}
use base.Fraction.{full_share}
use lib.Ieee.{Float, binary64, fits}
use lib.IntN.{ℤ}
use lib.ListN.{length}
use mir.Syntax.{named, w8, w64}
use mir.Val.{Val, vint, vfloat, of_z}
use base.Logic.{SProp, ent, sep, ex, emp, via, mono_r, ex_i}
use base.Fml.{GName, flft, flent}
use prog.Memory.{Memory}
use prog.Wp.{run}
use prog.Model.{Model, AllFit}
use prog.AdequacyRun.{start_mem}
use prog.Routine.{Routine}
use types.Logic.{Logic, sem}
use ghost.Model as Closed
use types.Kit.{‵, raw, ◌⊛◌, some, later, ◌$◌, ◌∵◌, !, qed, move, use1, use2, split, join, pick, suffices, frame, await, updating, now as at_once, done}
use types.Share.{arr_parts}
use types.Tokens.{lft_new}
use contract.Lifetimes.{Lfts, Shares}
use contract.Monad.{fact}
use contract.Running.{Running}
use contract.Closed.{model⁺, real⁺, real⁺_strict}
use contract.BorrowModel.{logic₀}
use contract.Adequate.{Satisfies, start_Satisfies, sat_weaken}
use denote.Builtin.{u8, u64, i64, f64, SliceRefOf, SliceRefMutOf}
use denote.Exit as Exit
use denote.Lend.{Held}
use denote.Memory.{shares}
use denote.Shadow.{pure_i}
use denote.Signature.{Signature, Slot, plain}
use denote.Slice.{slice_val, MutSlice, ShrSlice, Room}
use denote.Steps.{nothing}
use denote.Triple.Entry.{on_entry, Args, Vals}
use denote.Triple.End.{Kepts, lasts_of}
use denote.Triple.Spec.{Spec, triple_of, Meets, exits}
use Rattle.possible.proofs.World.{running, wz_step_wired}
use Rattle.possible.proofs.RunLaws.{Strict, has_result, with_emp, lent_mut, lent_shr, behind, run_apart, taken_back, good_left}
use Rattle.capi.specs.Memory.{worker_in}
use lib.Signed.{mag}
use Rattle.replies.specs.Worker.{at}
use Rattle.replies.specs.declared.reply.Reply.{Reply}
use Rattle.replies.specs.contracts.reply.Reply as reply
use Rattle.worker.specs.Steps.{step}
use Rattle.capi.specs.Calls.{answer_of, Stepped}
use Rattle.capi.proofs.calls.wz_step.Met as step-theorem

abbrev others : List (Slot 3)
others = plain {n = 3} (λ κs. f64) ∷ plain {n = 3} (λ κs. i64) ∷ plain {n = 3} (λ κs. u64) ∷ plain {n = 3} (λ κs. u64) ∷ plain {n = 3} (λ κs. u64)
    ∷ SliceRefOf {n = 3} (1 ∷ []) tt (plain {n = 3} (λ κs. u8)) (λ κs. tt) ∷ SliceRefMutOf {n = 3} (2 ∷ []) tt (plain {n = 3} (λ κs. u8)) (λ κs. tt) ∷ []

abbrev S : Signature
S = record {
  lifetimes = 3;
  outlives = [];
  params = SliceRefMutOf {n = 3} (0 ∷ []) tt (plain {n = 3} (λ κs. u8)) (λ κs. tt) ∷ others;
  result = plain {n = 3} (λ κs. reply.the_row);
}

abbrev ks : Kepts S.params
ks = (Exit.yes, (Exit.yes, (Exit.yes, (Exit.yes, (Exit.yes, (Exit.yes, (Exit.yes, (Exit.yes, tt))))))))

-- the numbers of a step
pub record Numbers : Type 0 where
  pub clock : Float
  pub wall : ℤ
  pub kind : ℕ
  pub number : ℕ
  pub message : ℕ

abbrev pub Says : List ℕ → Numbers → List ℕ → List ℕ → Reply → List ℕ → List ℕ → Type 0
Says old n list out r new out' = Stepped old new r out out' (step (worker_in old) (at n.clock n.wall) (answer_of n.kind n.number n.message list) (length out))

abbrev spec : {M : Type 1} {𝓤 : Ura M} (𝓛 : Logic 𝓤) → Spec 𝓤 S
spec {𝓤 = 𝓤} 𝓛 κs a = record {
  ghost = Unit {0};
  requires = λ g. emp 𝓤;
  ensures = λ g r. exits 𝓛 S ks κs a (λ e. fact 𝓤 (Says a.0.now
      (record { clock = a.1.0; wall = a.1.1.0; kind = a.1.1.1.0; number = a.1.1.1.1.0; message = a.1.1.1.1.1.0 }) a.1.1.1.1.1.1.0.now a.1.1.1.1.1.1.1.0.now
      r e.0.now e.1.1.1.1.1.1.1.0.now));
}

-- what the host's types hold
pub record InRange (n : Numbers) : Type 0 where
  pub clock_fits : fits binary64 n.clock ≡ true
  pub wall_fits : mag n.wall < 2 ^ 63
  pub kind_fits : n.kind < 2 ^ 64
  pub number_fits : n.number < 2 ^ 64
  pub message_fits : n.message < 2 ^ 64

module _ {M : Type 1} {𝓤 : Ura M} (𝓛 : Logic 𝓤) (𝓜 : Model 𝓤 𝓛.H) (xs list out : List ℕ)
    (room : Room u8 (length xs)) (room₁ : Room u8 (length list)) (room₂ : Room u8 (length out)) (n : Numbers) (f : InRange n) where
  -- the lifetime and the name of the memory, the lifetime of the list, and both of the list to write
  open 𝓛 use {H, A}

  abbrev X : Type 0
  X = (ℕ × GName) × (ℕ × (ℕ × GName))

  abbrev κs : X → Lfts 3
  κs x = (x.0.0 ∷ [], (x.1.0 ∷ [], (x.1.1.0 ∷ [], tt)))

  abbrev o : ℕ
  o = behind 𝓛 𝓜 1 0 list

  abbrev args : (x : X) → Args S (κs x)
  args x = (
    record { ref_ptr = (0, 0); ghost_name = x.0.1; now = xs },
    (
      n.clock,
      (
        n.wall,
        (
          n.kind,
          (
            n.number,
            (
              n.message,
              (record { ref_ptr = (1, 0); now = list }, (record { ref_ptr = (1, o); ghost_name = x.1.1.1; now = out }, tt)),
            ),
          ),
        ),
      ),
    ),
  )

  abbrev vals : (x : X) → Vals S (κs x)
  vals x = (
    slice_val (0, 0) (length xs) ∷ [],
    (
      vfloat binary64 n.clock ∷ [],
      (
        vint w64 (of_z w64 n.wall) ∷ [],
        (
          vint w64 n.kind ∷ [],
          (
            vint w64 n.number ∷ [],
            (
              vint w64 n.message ∷ [],
              (slice_val (1, 0) (length list) ∷ [], (slice_val (1, o) (length out) ∷ [], tt)),
            ),
          ),
        ),
      ),
    ),
  )

  abbrev shs : Shares 3
  shs = (full_share, (full_share, (full_share, tt)))

  abbrev bound : X → (triple_of 𝓛 S (spec 𝓛)).Ghost
  bound x = ((κs x, shs, tt, args x, vals x), tt)

  abbrev Loan : X → SProp 𝓤
  Loan x = A.lent (x.0.0 ∷ []) (Held u8 (length xs) 0 0 x.0.1)

  abbrev Lists : X → SProp 𝓤
  Lists x = sep 𝓤 (A.lent (x.1.0 ∷ []) ((arr_parts (shares u8) (length list)).part full_share list 1 0)) (A.lent (x.1.1.0 ∷ []) (Held u8 (length out) 1 o x.1.1.1))

  abbrev Aside : X → SProp 𝓤
  Aside x = sep 𝓤 (Loan x) (Lists x)

  abbrev Entry : X → SProp 𝓤
  Entry x = on_entry 𝓛 S (κs x) shs (args x) (vals x)

  abbrev Asked : X → SProp 𝓤
  Asked x = (triple_of 𝓛 S (spec 𝓛)).pre (bound x)

  abbrev Start : SProp 𝓤
  Start = sep 𝓤 (run 𝓤 H full_share w8 0 0 xs) (run 𝓤 H full_share w8 1 0 (list ++ out))

  -- the memory and both lists are lent
  lends : ent 𝓤 Start (H.⇛ (ex 𝓤 (λ (x : X). sep 𝓤 (Aside x) (Asked x))))
  lends =
      qed 𝓛 (raw (run 𝓤 H full_share w8 0 0 xs) ∷ raw (run 𝓤 H full_share w8 1 0 (list ++ out)) ∷ []) ∵ updating ! $ move ! (1 ∷ []) $
      use1 𝓛 (raw (run 𝓤 H full_share w8 1 0 list) ⊛ raw (run 𝓤 H full_share w8 1 o out)) (run_apart 𝓛 𝓜 1 list out 0) $ split ! $
      lft_new ! tt (λ α. lft_new ! tt (λ β. lft_new ! tt (λ γ. move ! (5 ∷ []) $
      use1 𝓛 (later (some (λ (δ : GName). ‵ ((MutSlice (named 0) (α ∷ []) u8).own_val (record { ref_ptr = (0, 0); ghost_name = δ; now = xs }) (slice_val (0, 0) (length xs) ∷ [])) ⊛ ‵ (flent (α ∷ []) (Held u8 (length xs) 0 0 δ)))))
      (lent_mut 𝓛 𝓜 0 0 α 0 xs room) $ await ! tt $ pick ! (λ δ. split ! $ move ! (5 ∷ 3 ∷ []) $
      use2 𝓛 (later ((‵ ((ShrSlice (named 1) (β ∷ []) u8).own_val (record { ref_ptr = (1, 0); now = list }) (slice_val (1, 0) (length list) ∷ []))
      ⊛ ‵ (flent (β ∷ []) ((arr_parts (shares u8) (length list)).part full_share list 1 0))) ⊛ ‵ (flft (β ∷ []) full_share)))
      (lent_shr 𝓛 𝓜 1 1 β 0 list room₁) $ await ! tt $ split ! $ split ! $ move ! (0 ∷ 1 ∷ 3 ∷ 4 ∷ 5 ∷ 2 ∷ []) $ move ! (7 ∷ []) $
      use1 𝓛 (later (some (λ (ζ : GName). ‵ ((MutSlice (named 2) (γ ∷ []) u8).own_val (record { ref_ptr = (1, o); ghost_name = ζ; now = out }) (slice_val (1, o) (length out) ∷ [])) ⊛ ‵ (flent (γ ∷ []) (Held u8 (length out) 1 o ζ)))))
      (lent_mut 𝓛 𝓜 1 2 γ o out room₂) $ await ! tt $ pick ! (λ ζ. split ! $ at_once ! $
      suffices ! (sep 𝓤 (Aside ((α, δ), (β, (γ, ζ)))) (Entry ((α, δ), (β, (γ, ζ)))))
      (via 𝓤 (sep 𝓤 (Aside ((α, δ), (β, (γ, ζ)))) (Asked ((α, δ), (β, (γ, ζ)))))
      (mono_r 𝓤 (Aside ((α, δ), (β, (γ, ζ)))) (with_emp 𝓛 𝓜 (Entry ((α, δ), (β, (γ, ζ))))))
      (ex_i 𝓤 (λ (x : X). sep 𝓤 (Aside x) (Asked x)) ((α, δ), (β, (γ, ζ))))) $
      -- [out; its loan; list; its loan; memory; its loan; γ; β; α]
      move ! (3 ∷ 1 ∷ 5 ∷ 8 ∷ 7 ∷ 6 ∷ 4 ∷ 2 ∷ 0 ∷ []) $ join ! $ move ! (1 ∷ 0 ∷ []) $ join ! $ frame ! $
      -- [α; β; γ; memory; list; out]
      nothing ! $ move ! (3 ∷ 0 ∷ []) $ join ! $ move ! (2 ∷ 0 ∷ []) $ join ! $ move ! (1 ∷ 0 ∷ []) $ join ! $ frame ! $
      frame ! $ pure_i ! (f64.own_val n.clock (vfloat binary64 n.clock ∷ [])) (tt, tt) (refl, f.clock_fits) $ frame ! $
      pure_i ! (i64.own_val n.wall (vint w64 (of_z w64 n.wall) ∷ [])) (tt, tt) (refl, f.wall_fits) $ frame ! $
      pure_i ! (u64.own_val n.kind (vint w64 n.kind ∷ [])) (tt, tt) (refl, f.kind_fits) $ frame ! $
      pure_i ! (u64.own_val n.number (vint w64 n.number ∷ [])) (tt, tt) (refl, f.number_fits) $ frame ! $
      pure_i ! (u64.own_val n.message (vint w64 n.message ∷ [])) (tt, tt) (refl, f.message_fits) $ frame ! $
      frame ! $ nothing ! $ move ! (1 ∷ 0 ∷ []) $ done !)))))

  -- what is left in the memory, and in the list to write
  abbrev Z : Type 0
  Z = List ℕ × List ℕ

  abbrev L : Type 0
  L = List ℕ × (Unit {0} × (Unit {0} × (Unit {0} × (Unit {0} × (Unit {0} × (Unit {0} × (List ℕ × Unit {0})))))))

  -- the memory is taken back
  takes : (x : X) (v : Val) → ent 𝓤 (sep 𝓤 ((triple_of 𝓛 S (spec 𝓛)).post (bound x) v) (Aside x))
      (H.⇛ (ex 𝓤 (λ (y : Reply × Z). sep 𝓤 (run 𝓤 H full_share w8 0 0 y.1.0) (fact 𝓤 (Says xs n list out y.0 y.1.0 y.1.1)))))
  takes x v =
      taken_back 𝓛 𝓜 0 0 xs Reply Z L (λ l. (l.0, l.1.1.1.1.1.1.1.0)) (λ z. z.0) (λ r. sem 𝓛 ((reply.the_row).own_val r (v ∷ [])))
      (sep 𝓤 (A.lft (x.1.0 ∷ []) full_share) (sep 𝓤 (A.lft (x.1.1.0 ∷ []) full_share) (emp 𝓤))) (Lists x)
      (λ l. lasts_of (κs x) others ks.1 (args x).1 l.1) (λ r z. Says xs n list out r z.0 z.1) x.0.0 x.0.1

  -- so there is a result, in every model
  result : (𝓡 : Running 𝓤 H 𝓜) → Strict 𝓛 𝓜 𝓡 → (ρ : Routine) → Meets 𝓛 S (𝓡.run ρ) (spec 𝓛) → (σ : Memory) → Satisfies 𝓤 H 𝓜 σ (sep 𝓤 Start (emp 𝓤))
      → ∥ ((y : Reply × Z) × (Says xs n list out y.0 y.1.0 y.1.1 × AllFit w8 y.1.0)) ∥₁
  result 𝓡 strict ρ met σ s =
      has_result 𝓛 𝓜 𝓡 strict ρ (triple_of 𝓛 S (spec 𝓛)) met X bound Aside Start lends (Reply × Z)
      (λ y. sep 𝓤 (run 𝓤 H full_share w8 0 0 y.1.0) (fact 𝓤 (Says xs n list out y.0 y.1.0 y.1.1))) takes
      (λ y. Says xs n list out y.0 y.1.0 y.1.1 × AllFit w8 y.1.0) (λ y. good_left 𝓛 𝓜 0 0 y.1.0 (Says xs n list out y.0 y.1.0 y.1.1)) σ (emp 𝓤) s

-- bytes behind bytes are bytes
pub all_fit : (ys zs : List ℕ) → AllFit w8 ys → AllFit w8 zs → AllFit w8 (ys ++ zs)
all_fit [] zs f g = g
all_fit (y ∷ ys) zs f g = (f.0, all_fit ys zs f.1 g)

-- at the closed model, from a memory that holds the bytes
pub step_has : (xs : List ℕ) → AllFit w8 xs → Room u8 (length xs) → (n : Numbers) → InRange n
    → (list : List ℕ) → AllFit w8 list → Room u8 (length list) → (out : List ℕ) → AllFit w8 out → Room u8 (length out)
    → ∥ ((r : Reply) × (new : List ℕ) × (out' : List ℕ) × Says xs n list out r new out' × AllFit w8 new) ∥₁
step_has xs f g n k list f₁ g₁ out f₂ g₂ =
    ∥∥₁_map (result logic₀ model⁺ xs list out g g₁ g₂ n k real⁺ real⁺_strict _
    (step-theorem.met Closed.𝓤 logic₀ model⁺ running wz_step_wired) (start_mem xs (list ++ out))
    (sat_weaken Closed.𝓤 Closed.H model⁺ (start_mem xs (list ++ out)) (with_emp logic₀ model⁺ _)
    (start_Satisfies Closed.𝓤 Closed.H model⁺ xs (list ++ out) f (all_fit list out f₁ f₂))))
    (λ y. (y.0.0, y.0.1.0, y.0.1.1, y.1.0, y.1.1))
