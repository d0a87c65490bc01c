-- Creation has a result.
use mathlib.Core.Path.{◌≡◌, refl}
use mathlib.Core.Bool.{true}
use mathlib.Core.Logic.{∥∥₁_prop, ∥∥₁_elim, ∥∥₁_map}
use mathlib.Core.List.{List, [], ◌∷◌}
use Prim.Native.Nat.{ℕ}
use seplogic.Ra.Ura.{Ura}
use base.Fraction.{full_share}
use lib.Ieee.{binary64, fits}
use lib.ListN.{length}
use mir.Syntax.{named, w8, w32}
use mir.Val.{Val}
use base.Logic.{SProp, ent, sep, ex, emp, via, mono_r, ex_i, fst∗}
use base.Fml.{GName, flft, flent}
use prog.Memory.{Memory}
use prog.Wp.{run}
use prog.Model.{Model, AllFit}
use prog.AdequacyRun.{start_mem}
use prog.Routine.{Routine}
use types.Logic.{Logic, sem}
use ghost.Model as Closed
use types.Kit.{‵, raw, ◌⊛◌, some, later, ◌$◌, ◌∵◌, !, qed, move, use1, use2, split, join, pick, suffices, frame, await, updating, now as at_once, done}
use types.Share.{arr_parts}
use types.Tokens.{lft_new}
use contract.Lifetimes.{Lfts}
use contract.Monad.{fact}
use contract.Running.{Running}
use contract.Closed.{model⁺, real⁺, real⁺_strict}
use contract.BorrowModel.{logic₀}
use contract.Adequate.{Satisfies, start_Satisfies, sat_weaken}
use denote.Builtin.{u8, u32, SliceRefOf, SliceRefMutOf}
use denote.Exit as Exit
use denote.Lend.{Held}
use denote.Memory.{shares}
use denote.Shadow.{pure_i}
use denote.Signature.{Signature, Slot, plain}
use denote.Slice.{slice_val, MutSlice, ShrSlice, Room}
use denote.Steps.{nothing}
use denote.Struct.Declared.{shape}
use denote.Struct.Laws as LL
use denote.Struct.Struct.{Struct-Pure}
use denote.Triple.Entry.{on_entry, Args, Vals}
use denote.Triple.End.{Kepts, lasts_of}
use denote.Triple.Spec.{Spec, triple_of, Meets, exits}
use Rattle.heads.specs.declared.options.Options.{Options}
use Rattle.heads.specs.contracts.options.Options as O
use Rattle.heads.proofs.options.Options.TheLaws as O'
use Rattle.checks.specs.Creation.{Setup}
use Rattle.capi.specs.Creation.{Created}
use Rattle.capi.proofs.creation.wz_create.Met as create
use Rattle.possible.proofs.World.{running, wz_create_wired}
use Rattle.possible.proofs.RunLaws.{Strict, has_result, with_emp, lent_mut, taken_back, good_left}
use Rattle.possible.proofs.BlockRuns.{held, lent_numbers}

abbrev others : List (Slot 4)
others = SliceRefOf {n = 4} (1 ∷ []) tt (plain {n = 4} (λ κs. u8)) (λ κs. tt) ∷ SliceRefOf {n = 4} (1 ∷ []) tt (plain {n = 4} (λ κs. u32)) (λ κs. tt)
    ∷ plain {n = 4} (λ κs. O.the_row)
    ∷ SliceRefOf {n = 4} (2 ∷ []) tt (plain {n = 4} (λ κs. u8)) (λ κs. tt) ∷ SliceRefOf {n = 4} (3 ∷ []) tt (plain {n = 4} (λ κs. u8)) (λ κs. tt) ∷ []

abbrev S : Signature
S = record {
  lifetimes = 4;
  outlives = [];
  params = SliceRefMutOf {n = 4} (0 ∷ []) tt (plain {n = 4} (λ κs. u8)) (λ κs. tt) ∷ others;
  result = plain {n = 4} (λ κs. u32);
}

abbrev ks : Kepts S.params
ks = (Exit.yes, (Exit.yes, (Exit.yes, (Exit.yes, (Exit.yes, (Exit.yes, tt))))))

abbrev pub Says : List ℕ → Setup → ℕ → List ℕ → Type 0
Says old s r new = Created old new r s

abbrev spec : {M : Type 1} {𝓤 : Ura M} (𝓛 : Logic 𝓤) → Spec 𝓤 S
spec {𝓤 = 𝓤} 𝓛 κs a = record {
  ghost = Unit {0};
  requires = λ g. emp 𝓤;
  ensures = λ g r. exits 𝓛 S ks κs a (λ e. fact 𝓤 (Says a.0.now
      (record {
        names = a.1.0.now;
        ends = a.1.1.0.now;
        options = a.1.1.1.0;
        settings = a.1.1.1.1.0.now;
        groups = a.1.1.1.1.1.0.now;
      }) r e.0.now));
}

-- the machine's value of the options
abbrev options_vals : Options → List Val
options_vals o = LL.vals O.the_type O'.the_laws o

-- what the host's types hold
pub record InRange (s : Setup) : Type 0 where
  pub names_fit : AllFit w8 s.names
  pub names_room : Room u8 (length s.names)
  pub ends_fit : AllFit w32 s.ends
  pub ends_room : Room u32 (length s.ends)
  pub cycle_fits : fits binary64 s.options.cycle ≡ true
  pub period_fits : fits binary64 s.options.period ≡ true
  pub grace_fits : fits binary64 s.options.grace ≡ true
  pub settings_fit : AllFit w8 s.settings
  pub settings_room : Room u8 (length s.settings)
  pub groups_fit : AllFit w8 s.groups
  pub groups-room : Room u8 (length s.groups)

module _ {M : Type 1} {𝓤 : Ura M} (𝓛 : Logic 𝓤) (𝓜 : Model 𝓤 𝓛.H) (xs : List ℕ) (room : Room u8 (length xs)) (s : Setup) (f : InRange s)
    (b₁ b₂ b₃ b₄ : ℕ) where
  -- the lifetime and the name of the memory; the lifetime of names and ends, of the settings, and of the groups
  open 𝓛 use {H, A}

  abbrev X : Type 0
  X = (ℕ × GName) × (ℕ × (ℕ × ℕ))

  abbrev κs : X → Lfts 4
  κs x = (x.0.0 ∷ [], (x.1.0 ∷ [], (x.1.1.0 ∷ [], (x.1.1.1 ∷ [], tt))))

  abbrev args : (x : X) → Args S (κs x)
  args x = (
    record { ref_ptr = (0, 0); ghost_name = x.0.1; now = xs },
    (
      record { ref_ptr = (b₁, 0); now = s.names },
      (
        record { ref_ptr = (b₂, 0); now = s.ends },
        (s.options, (record { ref_ptr = (b₃, 0); now = s.settings }, (record { ref_ptr = (b₄, 0); now = s.groups }, tt))),
      ),
    ),
  )

  abbrev vals : (x : X) → Vals S (κs x)
  vals x = (
    slice_val (0, 0) (length xs) ∷ [],
    (
      slice_val (b₁, 0) (length s.names) ∷ [],
      (
        slice_val (b₂, 0) (length s.ends) ∷ [],
        (options_vals s.options, (slice_val (b₃, 0) (length s.settings) ∷ [], (slice_val (b₄, 0) (length s.groups) ∷ [], tt))),
      ),
    ),
  )

  abbrev bound : X → (triple_of 𝓛 S (spec 𝓛)).Ghost
  bound x = ((κs x, (full_share, (full_share, (full_share, (full_share, tt)))), tt, args x, vals x), tt)

  -- what the lender keeps: of the memory, and of each list
  abbrev Loan : X → SProp 𝓤
  Loan x = A.lent (x.0.0 ∷ []) (Held u8 (length xs) 0 0 x.0.1)

  abbrev Lists : X → SProp 𝓤
  Lists x =
      sep 𝓤 (A.lent (x.1.0 ∷ []) ((arr_parts (shares u8) (length s.names)).part full_share s.names b₁ 0))
      (sep 𝓤 (A.lent (x.1.0 ∷ []) ((arr_parts (shares u32) (length s.ends)).part full_share s.ends b₂ 0))
      (sep 𝓤 (A.lent (x.1.1.0 ∷ []) ((arr_parts (shares u8) (length s.settings)).part full_share s.settings b₃ 0))
      (A.lent (x.1.1.1 ∷ []) ((arr_parts (shares u8) (length s.groups)).part full_share s.groups b₄ 0))))

  abbrev Aside : X → SProp 𝓤
  Aside x = sep 𝓤 (Loan x) (Lists x)

  abbrev Entry : X → SProp 𝓤
  Entry x = on_entry 𝓛 S (κs x) (full_share, (full_share, (full_share, (full_share, tt)))) (args x) (vals x)

  abbrev Asked : X → SProp 𝓤
  Asked x = (triple_of 𝓛 S (spec 𝓛)).pre (bound x)

  abbrev Start : SProp 𝓤
  Start =
      sep 𝓤 (run 𝓤 H full_share w8 b₁ 0 s.names)
      (sep 𝓤 (run 𝓤 H full_share w32 b₂ 0 s.ends)
      (sep 𝓤 (run 𝓤 H full_share w8 b₃ 0 s.settings) (sep 𝓤 (run 𝓤 H full_share w8 b₄ 0 s.groups) (run 𝓤 H full_share w8 0 0 xs))))

  -- the memory and the lists are lent
  lends : ent 𝓤 Start (H.⇛ (ex 𝓤 (λ (x : X). sep 𝓤 (Aside x) (Asked x))))
  lends =
      qed 𝓛 (raw (run 𝓤 H full_share w8 b₁ 0 s.names) ∷ raw (run 𝓤 H full_share w32 b₂ 0 s.ends) ∷ raw (run 𝓤 H full_share w8 b₃ 0 s.settings) ∷ raw (run 𝓤 H full_share w8 b₄ 0 s.groups)
      ∷ raw (run 𝓤 H full_share w8 0 0 xs) ∷ []) ∵ updating ! $
      lft_new ! tt (λ α. lft_new ! tt (λ β. lft_new ! tt (λ γ. lft_new ! tt (λ θ. move ! (8 ∷ []) $
      use1 𝓛 (later (some (λ (δ : GName). ‵ ((MutSlice (named 0) (α ∷ []) u8).own_val (record { ref_ptr = (0, 0); ghost_name = δ; now = xs }) (slice_val (0, 0) (length xs) ∷ [])) ⊛ ‵ (flent (α ∷ []) (Held u8 (length xs) 0 0 δ)))))
      (lent_mut 𝓛 𝓜 0 0 α 0 xs room) $ await ! tt $ pick ! (λ δ. split ! $ move ! (6 ∷ 4 ∷ []) $
      use2 𝓛 (later ((‵ ((ShrSlice (named 1) (β ∷ []) u8).own_val (record { ref_ptr = (b₁, 0); now = s.names }) (slice_val (b₁, 0) (length s.names) ∷ []))
      ⊛ ‵ (flent (β ∷ []) ((arr_parts (shares u8) (length s.names)).part full_share s.names b₁ 0))) ⊛ ‵ (flft (β ∷ []) full_share)))
      (lent_numbers 𝓛 w8 b₁ 1 β 0 s.names f.names_room) $ await ! tt $ split ! $ split ! $ move ! (0 ∷ 1 ∷ 3 ∷ 4 ∷ 5 ∷ 6 ∷ 2 ∷ []) $ move ! (8 ∷ 6 ∷ []) $
      use2 𝓛 (later ((‵ ((ShrSlice (named 1) (β ∷ []) u32).own_val (record { ref_ptr = (b₂, 0); now = s.ends }) (slice_val (b₂, 0) (length s.ends) ∷ []))
      ⊛ ‵ (flent (β ∷ []) ((arr_parts (shares u32) (length s.ends)).part full_share s.ends b₂ 0))) ⊛ ‵ (flft (β ∷ []) full_share)))
      (lent_numbers 𝓛 w32 b₂ 1 β 0 s.ends f.ends_room) $ await ! tt $ split ! $ split ! $ move ! (0 ∷ 1 ∷ 3 ∷ 4 ∷ 5 ∷ 6 ∷ 7 ∷ 8 ∷ 2 ∷ []) $ move ! (10 ∷ 7 ∷ []) $
      use2 𝓛 (later ((‵ ((ShrSlice (named 2) (γ ∷ []) u8).own_val (record { ref_ptr = (b₃, 0); now = s.settings }) (slice_val (b₃, 0) (length s.settings) ∷ []))
      ⊛ ‵ (flent (γ ∷ []) ((arr_parts (shares u8) (length s.settings)).part full_share s.settings b₃ 0))) ⊛ ‵ (flft (γ ∷ []) full_share)))
      (lent_numbers 𝓛 w8 b₃ 2 γ 0 s.settings f.settings_room) $ await ! tt $ split ! $ split ! $ move ! (0 ∷ 1 ∷ 3 ∷ 4 ∷ 5 ∷ 6 ∷ 7 ∷ 8 ∷ 9 ∷ 2 ∷ []) $ move ! (12 ∷ 8 ∷ []) $
      use2 𝓛 (later ((‵ ((ShrSlice (named 3) (θ ∷ []) u8).own_val (record { ref_ptr = (b₄, 0); now = s.groups }) (slice_val (b₄, 0) (length s.groups) ∷ []))
      ⊛ ‵ (flent (θ ∷ []) ((arr_parts (shares u8) (length s.groups)).part full_share s.groups b₄ 0))) ⊛ ‵ (flft (θ ∷ []) full_share)))
      (lent_numbers 𝓛 w8 b₄ 3 θ 0 s.groups f.groups-room) $ await ! tt $ split ! $ split ! $ move ! (0 ∷ 1 ∷ 3 ∷ 4 ∷ 5 ∷ 6 ∷ 7 ∷ 8 ∷ 9 ∷ 10 ∷ 2 ∷ []) $ at_once ! $
      suffices ! (sep 𝓤 (Aside ((α, δ), (β, (γ, θ)))) (Entry ((α, δ), (β, (γ, θ)))))
      (via 𝓤 (sep 𝓤 (Aside ((α, δ), (β, (γ, θ)))) (Asked ((α, δ), (β, (γ, θ)))))
      (mono_r 𝓤 (Aside ((α, δ), (β, (γ, θ)))) (with_emp 𝓛 𝓜 (Entry ((α, δ), (β, (γ, θ))))))
      (ex_i 𝓤 (λ (x : X). sep 𝓤 (Aside x) (Asked x)) ((α, δ), (β, (γ, θ))))) $
      -- [groups; its loan; settings; its loan; ends; its loan; names; its loan; memory; its loan; θ; γ; β; α]
      move ! (3 ∷ 1 ∷ 5 ∷ 7 ∷ 9 ∷ 13 ∷ 12 ∷ 11 ∷ 10 ∷ 8 ∷ 6 ∷ 4 ∷ 2 ∷ 0 ∷ []) $ join ! $ move ! (1 ∷ 0 ∷ []) $ join ! $ move ! (1 ∷ 0 ∷ []) $ join ! $ move ! (1 ∷ 0 ∷ []) $ join ! $ frame ! $
      -- [α; β; γ; θ; memory; names; ends; settings; groups]
      nothing ! $ move ! (4 ∷ 0 ∷ []) $ join ! $ move ! (3 ∷ 0 ∷ []) $ join ! $ move ! (2 ∷ 0 ∷ []) $ join ! $ move ! (1 ∷ 0 ∷ []) $ join ! $ frame ! $
      frame ! $ frame ! $ frame ! $ pure_i ! ((O.the_row).own_val s.options (options_vals s.options)) (Struct-Pure (shape O.the_type) O'.the_plain ((O.the_type).to s.options) (options_vals s.options))
      (LL.owes O.the_type O'.the_laws s.options ((refl, f.cycle_fits), ((refl, f.period_fits), ((refl, f.grace_fits), tt)))) $ frame ! $
      frame ! $ nothing ! $ move ! (1 ∷ 0 ∷ []) $ done !)))))

  abbrev L : Type 0
  L = List ℕ × (Unit {0} × (Unit {0} × (Unit {0} × (Unit {0} × (Unit {0} × Unit {0})))))

  -- the memory is taken back
  takes : (x : X) (v : Val) → ent 𝓤 (sep 𝓤 ((triple_of 𝓛 S (spec 𝓛)).post (bound x) v) (Aside x))
      (H.⇛ (ex 𝓤 (λ (y : ℕ × List ℕ). sep 𝓤 (run 𝓤 H full_share w8 0 0 y.1) (fact 𝓤 (Says xs s y.0 y.1)))))
  takes x v =
      taken_back 𝓛 𝓜 0 0 xs ℕ (List ℕ) L (λ l. l.0) (λ z. z) (λ r. sem 𝓛 (u32.own_val r (v ∷ [])))
      (sep 𝓤 (A.lft (x.1.0 ∷ []) full_share) (sep 𝓤 (A.lft (x.1.1.0 ∷ []) full_share) (sep 𝓤 (A.lft (x.1.1.1 ∷ []) full_share) (emp 𝓤)))) (Lists x)
      (λ l. lasts_of (κs x) others ks.1 (args x).1 l.1) (λ r z. Says xs s r z) x.0.0 x.0.1

  -- so there is a result, in every model
  result : (𝓡 : Running 𝓤 H 𝓜) → Strict 𝓛 𝓜 𝓡 → (ρ : Routine) → Meets 𝓛 S (𝓡.run ρ) (spec 𝓛) → (σ : Memory) → Satisfies 𝓤 H 𝓜 σ (sep 𝓤 Start (emp 𝓤))
      → ∥ ((y : ℕ × List ℕ) × (Says xs s y.0 y.1 × AllFit w8 y.1)) ∥₁
  result 𝓡 strict ρ met σ h =
      has_result 𝓛 𝓜 𝓡 strict ρ (triple_of 𝓛 S (spec 𝓛)) met X bound Aside Start lends (ℕ × List ℕ)
      (λ y. sep 𝓤 (run 𝓤 H full_share w8 0 0 y.1) (fact 𝓤 (Says xs s y.0 y.1))) takes
      (λ y. Says xs s y.0 y.1 × AllFit w8 y.1) (λ y. good_left 𝓛 𝓜 0 0 y.1 (Says xs s y.0 y.1)) σ (emp 𝓤) h

-- a memory that holds the engine's memory and the lists, each in a block of its own
module _ {M : Type 1} {𝓤 : Ura M} (𝓛 : Logic 𝓤) (𝓜 : Model 𝓤 𝓛.H) (xs : List ℕ) (fit : AllFit w8 xs) (room : Room u8 (length xs)) (s : Setup) (f : InRange s) where
  open 𝓛 use {H}

  abbrev Placed : ℕ × ℕ × ℕ × ℕ → SProp 𝓤
  Placed b = Start 𝓛 𝓜 xs room s f b.0 b.1 b.2 b.3

  placed : ∥ ((σ : Memory) × (b : ℕ × ℕ × ℕ × ℕ) × Satisfies 𝓤 H 𝓜 σ (sep 𝓤 (Placed b) (emp 𝓤))) ∥₁
  placed =
      let bytes : SProp 𝓤 = run 𝓤 H full_share w8 0 0 xs in
      let start = sat_weaken 𝓤 H 𝓜 (start_mem xs []) (fst∗ 𝓤 bytes (run 𝓤 H full_share w8 1 0 [])) (start_Satisfies 𝓤 H 𝓜 xs [] fit tt) in
      ∥∥₁_elim (held 𝓤 H 𝓜 w8 (λ n. tt) s.groups f.groups_fit (start_mem xs []) bytes start) ∥∥₁_prop (λ d.
      ∥∥₁_elim (held 𝓤 H 𝓜 w8 (λ n. tt) s.settings f.settings_fit d.0 _ d.2) ∥∥₁_prop (λ c.
      ∥∥₁_elim (held 𝓤 H 𝓜 w32 (λ n. tt) s.ends f.ends_fit c.0 _ c.2) ∥∥₁_prop (λ b.
      ∥∥₁_map (held 𝓤 H 𝓜 w8 (λ n. tt) s.names f.names_fit b.0 _ b.2) (λ a.
      (a.0, (a.1, b.1, c.1, d.1), sat_weaken 𝓤 H 𝓜 a.0 (with_emp 𝓛 𝓜 (Placed (a.1, b.1, c.1, d.1))) a.2)))))

-- at the closed model
pub create_has : (xs : List ℕ) → AllFit w8 xs → Room u8 (length xs) → (s : Setup) → InRange s → ∥ ((r : ℕ) × (new : List ℕ) × Says xs s r new × AllFit w8 new) ∥₁
create_has xs f g s k =
    ∥∥₁_elim (placed logic₀ model⁺ xs f g s k) ∥∥₁_prop (λ p.
    ∥∥₁_map (result logic₀ model⁺ xs g s k p.1.0 p.1.1 p.1.2 p.1.3 real⁺ real⁺_strict _
    (create.met Closed.𝓤 logic₀ model⁺ running wz_create_wired) p.0 p.2) (λ y. (y.0.0, y.0.1, y.1.0, y.1.1)))
