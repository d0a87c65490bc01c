-- Functions that are lent one slice of bytes to write, beside plain numbers, and answer a number: each has a result that its contract allows.
use mathlib.Core.Path.{◌≡◌, subst}
use mathlib.Core.Logic.{∥∥₁_map}
use Prim.Native.Nat.{ℕ}
use mathlib.Core.List.{List, [], ◌∷◌}
use seplogic.Ra.Ura.{Ura}
use base.Fraction.{full_share}
use lib.ListN.{length}
use mir.Syntax.{named, w8}
use mir.Val.{Val}
use base.Logic.{SProp, ent, sep, ex, emp, via, mono_l, mono_r, ex_i}
use base.Fml.{GName, flent}
use prog.Memory.{Memory}
use prog.Wp.{run}
use prog.Model.{Model, AllFit}
use prog.AdequacyRun.{start_mem}
use prog.Routine.{Routine}
use types.Logic.{Logic, sem}
use ghost.Model as Closed
use types.Kit.{‵, raw, ◌⊛◌, some, later, ◌$◌, ◌∵◌, !, qed, move, use1, split, join, pick, suffices, frame, await, updating, now as at_once, done}
use types.Tokens.{lft_new}
use contract.Monad.{fact}
use contract.Running.{Running}
use contract.Closed.{model⁺, real⁺, real⁺_strict}
use contract.BorrowModel.{logic₀}
use contract.Adequate.{Satisfies, start_Satisfies}
use contract.Lifetimes.{Lfts}
use denote.Builtin.{u8, u32, SliceRefMutOf}
use denote.Exit as Exit
use denote.Lend.{Held}
use denote.RattleType.{Denots, Valss, owns}
use denote.Shadow.{Pure, shadow, pure_i}
use denote.Signature.{Signature, Slot, plain, types_at}
use denote.Slice.{slice_val, MutSlice, Room}
use denote.Steps.{nothing}
use denote.Triple.Entry.{on_entry, Args, Vals}
use denote.Triple.End.{Kepts, Fins, lasts_of}
use denote.Triple.Spec.{Spec, triple_of, Meets, exits}
use Rattle.possible.proofs.RunLaws.{Strict, has_result, with_emp, lent_mut, taken_back, good_left}

-- `rest` is the other parameters, and Q what the contract says: of them, of the slice before, of the result, and of the slice after
module _ (rest : List (Slot 1)) (ks : Kepts rest) (Q : (κs : Lfts 1) → Denots (types_at rest κs) → List ℕ → ℕ → List ℕ → Type 0) where
  abbrev pub S : Signature
  S = record { lifetimes = 1; outlives = []; params = SliceRefMutOf {n = 1} (0 ∷ []) tt (plain {n = 1} (λ κs. u8)) (λ κs. tt) ∷ rest; result = plain {n = 1} (λ κs. u32) }

  abbrev pub spec : {M : Type 1} {𝓤 : Ura M} (𝓛 : Logic 𝓤) → Spec 𝓤 S
  spec {𝓤 = 𝓤} 𝓛 κs a = record {
    ghost = Unit {0};
    requires = λ g. emp 𝓤;
    ensures = λ g r. exits 𝓛 S (Exit.yes, ks) κs a (λ e. fact 𝓤 (Q κs a.1 a.0.now r e.0.now));
  }

  -- the other parameters, and their machine values: pure facts say that they are what they are
  module _ (others : (κs : Lfts 1) → Denots (types_at rest κs)) (values : (κs : Lfts 1) → Valss (types_at rest κs))
      (pure : (κs : Lfts 1) → Pure (owns (types_at rest κs) (others κs) (values κs))) (hold : (κs : Lfts 1) → shadow (owns (types_at rest κs) (others κs) (values κs)))
      (xs : List ℕ) (room : Room u8 (length xs)) (Says : ℕ → List ℕ → Type 0) (means : (κs : Lfts 1) (r : ℕ) (new : List ℕ) → Q κs (others κs) xs r new ≡ Says r new) where
    module _ {M : Type 1} {𝓤 : Ura M} (𝓛 : Logic 𝓤) (𝓜 : Model 𝓤 𝓛.H) where
      open 𝓛 use {H, A}

      abbrev X : Type 0
      X = ℕ × GName

      abbrev args : (x : X) → Args S (x.0 ∷ [], tt)
      args x = (record { ref_ptr = (0, 0); ghost_name = x.1; now = xs }, others (x.0 ∷ [], tt))

      abbrev vals : (x : X) → Vals S (x.0 ∷ [], tt)
      vals x = (slice_val (0, 0) (length xs) ∷ [], values (x.0 ∷ [], tt))

      abbrev bound : X → (triple_of 𝓛 S (spec 𝓛)).Ghost
      bound x = (((x.0 ∷ [], tt), (full_share, tt), tt, args x, vals x), tt)

      abbrev Loan : X → SProp 𝓤
      Loan x = A.lent (x.0 ∷ []) (Held u8 (length xs) 0 0 x.1)

      abbrev Aside : X → SProp 𝓤
      Aside x = sep 𝓤 (Loan x) (emp 𝓤)

      abbrev Entry : X → SProp 𝓤
      Entry x = on_entry 𝓛 S (x.0 ∷ [], tt) (full_share, tt) (args x) (vals x)

      abbrev Asked : X → SProp 𝓤
      Asked x = (triple_of 𝓛 S (spec 𝓛)).pre (bound x)

      -- the memory is lent
      lends : ent 𝓤 (run 𝓤 H full_share w8 0 0 xs) (H.⇛ (ex 𝓤 (λ (x : X). sep 𝓤 (Aside x) (Asked x))))
      lends =
          qed 𝓛 (raw (run 𝓤 H full_share w8 0 0 xs) ∷ []) ∵ updating ! $
          lft_new ! tt (λ α. move ! (1 ∷ []) $
          use1 𝓛 (later (some (λ (δ : GName). ‵ ((MutSlice (named 0) (α ∷ []) u8).own_val (record { ref_ptr = (0, 0); ghost_name = δ; now = xs }) (slice_val (0, 0) (length xs) ∷ [])) ⊛ ‵ (flent (α ∷ []) (Held u8 (length xs) 0 0 δ)))))
          (lent_mut 𝓛 𝓜 0 0 α 0 xs room) $ await ! tt $ pick ! (λ δ. split ! $ at_once ! $
          suffices ! (sep 𝓤 (Loan (α, δ)) (Entry (α, δ)))
          (via 𝓤 (sep 𝓤 (Aside (α, δ)) (Asked (α, δ)))
          (via 𝓤 (sep 𝓤 (Aside (α, δ)) (Entry (α, δ))) (mono_l 𝓤 (Entry (α, δ)) (with_emp 𝓛 𝓜 (Loan (α, δ)))) (mono_r 𝓤 (Aside (α, δ)) (with_emp 𝓛 𝓜 (Entry (α, δ)))))
          (ex_i 𝓤 (λ (x : X). sep 𝓤 (Aside x) (Asked x)) (α, δ))) $
          move ! (1 ∷ 2 ∷ 0 ∷ []) $ frame ! $ nothing ! $ move ! (1 ∷ 0 ∷ []) $ join ! $ frame ! $
          pure_i ! (owns (types_at rest (α ∷ [], tt)) (others (α ∷ [], tt)) (values (α ∷ [], tt))) (pure (α ∷ [], tt)) (hold (α ∷ [], tt)) $ move ! (1 ∷ 0 ∷ []) $ done !))

      -- and taken back
      takes : (x : X) (v : Val) → ent 𝓤 (sep 𝓤 ((triple_of 𝓛 S (spec 𝓛)).post (bound x) v) (Aside x)) (H.⇛ (ex 𝓤 (λ (y : ℕ × List ℕ). sep 𝓤 (run 𝓤 H full_share w8 0 0 y.1) (fact 𝓤 (Says y.0 y.1)))))
      takes x v =
          subst (λ (P : ℕ → List ℕ → Type 0). ent 𝓤 (sep 𝓤 ((triple_of 𝓛 S (spec 𝓛)).post (bound x) v) (Aside x)) (H.⇛ (ex 𝓤 (λ (y : ℕ × List ℕ). sep 𝓤 (run 𝓤 H full_share w8 0 0 y.1) (fact 𝓤 (P y.0 y.1))))))
          (λ i r new. means (x.0 ∷ [], tt) r new i)
          (taken_back 𝓛 𝓜 0 0 xs ℕ (List ℕ) (List ℕ × Fins (x.0 ∷ [], tt) rest ks (others (x.0 ∷ [], tt))) (λ l. l.0) (λ z. z) (λ r. sem 𝓛 (u32.own_val r (v ∷ []))) (emp 𝓤) (emp 𝓤)
          (λ l. lasts_of (x.0 ∷ [], tt) rest ks (others (x.0 ∷ [], tt)) l.1) (λ r z. Q (x.0 ∷ [], tt) (others (x.0 ∷ [], tt)) xs r z) x.0 x.1)

      -- so there is a result, in every model
      result : (𝓡 : Running 𝓤 H 𝓜) → Strict 𝓛 𝓜 𝓡 → (ρ : Routine) → Meets 𝓛 S (𝓡.run ρ) (spec 𝓛) → (σ : Memory) (F : SProp 𝓤) → Satisfies 𝓤 H 𝓜 σ (sep 𝓤 (run 𝓤 H full_share w8 0 0 xs) F)
          → ∥ ((y : ℕ × List ℕ) × (Says y.0 y.1 × AllFit w8 y.1)) ∥₁
      result 𝓡 strict ρ met σ F s =
          has_result 𝓛 𝓜 𝓡 strict ρ (triple_of 𝓛 S (spec 𝓛)) met X bound Aside (run 𝓤 H full_share w8 0 0 xs) lends (ℕ × List ℕ)
          (λ y. sep 𝓤 (run 𝓤 H full_share w8 0 0 y.1) (fact 𝓤 (Says y.0 y.1))) takes
          (λ y. Says y.0 y.1 × AllFit w8 y.1) (λ y. good_left 𝓛 𝓜 0 0 y.1 (Says y.0 y.1)) σ F s

    -- at the closed model, from a memory that holds the bytes
    pub one_has : AllFit w8 xs → (ρ : Routine) → Meets logic₀ S (real⁺.run ρ) (spec logic₀)
        → ∥ ((r : ℕ) × (new : List ℕ) × Says r new × AllFit w8 new) ∥₁
    one_has f ρ met =
        ∥∥₁_map (result logic₀ model⁺ real⁺ real⁺_strict ρ met
        (start_mem xs []) (run Closed.𝓤 Closed.H full_share w8 1 0 []) (start_Satisfies Closed.𝓤 Closed.H model⁺ xs [] f tt))
        (λ y. (y.0.0, y.0.1, y.1.0, y.1.1))
