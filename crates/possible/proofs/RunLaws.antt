-- A routine that meets its contract has a result that the contract allows: the logic's adequacy, for routines that are lent a slice of bytes to write.
use mathlib.Core.Path.{refl}
use mathlib.Core.Logic.{∥∥₁_prop, ∥∥₁_elim, ∥∥₁_map}
use Prim.Native.Nat.{ℕ, ◌+◌}
use mathlib.Core.List.{List, [], ◌∷◌, ◌++◌}
use seplogic.Ra.Ura.{Ura}
use base.Fraction.{full_share}
use lib.ListN.{length}
use mir.Syntax.{named, w8, ty_int}
use mir.Val.{Val, vint}
use base.Logic.{SProp, ent, sep, ex, emp, emp∗, id⊢, via, comm∗, assoc∗, assoc', mono_l, mono_r, fst∗, snd∗, ex_i}
use base.Fml.{GName, Fml, Incl-refl, fat, flft, flent, fbor, feq, fsep}
use prog.Memory.{Memory}
use prog.Wp.{run}
use prog.Model.{Model, AllFit}
use prog.Routine.{Routine, any_callee}
use prog.How.{Solo}
use types.Logic.{Logic, sem}
use types.Kit.{‵, raw, ◌⊛◌, some, later, ◌$◌, ◌∵◌, !, qed, by, move, keep, use1, use3, split, pick, fsplit, feq_i, fjoin, suffices, frame, await, updating, now as at_once, done}
use types.Run.{well_typed}
use types.Tokens.{lft_end}
use types.SemTy.{cells, Arr}
use types.Share.{parts, arr_parts}
use contract.Monad.{fact, fact_i, fact_mono}
use contract.Running.{Running, tables}
use contract.Adequate.{Satisfies, sat_weaken, sat_fact, sat_ex∗, sat_⇛}
use denote.Memory.{part_at, mem, shares}
use denote.Builtin.{u8}
use denote.Copied.{uint_Copied}
use denote.Plain.{uint_in, uint_out}
use denote.Slice.{slice_val, MutSlice, ShrSlice, Room, finally}
use denote.Lend.{Held, lends_slice, lends_shr_slice, slice_back}
use denote.Steps.{heard}
use denote.Triple.Statement.{Contract, Triple}
use denote.Triple.Walked.{says}
use denote.Triple.Adequate.{adequate}

module _ {M : Type 1} {𝓤 : Ura M} (𝓛 : Logic 𝓤) (𝓜 : Model 𝓤 𝓛.H) where
  open 𝓛 use {H, A}

  abbrev ◌∗◌ : SProp 𝓤 → SProp 𝓤 → SProp 𝓤
  P ∗ Q = sep 𝓤 P Q

  infixr 35 ◌∗◌
  -- no status is allowed, and no other thread is there
  abbrev pub Strict : Running 𝓤 H 𝓜 → Type 0
  Strict 𝓡 = ((s : ℕ) → 𝓡.allowed s → ⊥) × Solo 𝓤 𝓡.how

  -- ---- any contract

  -- What the call is lent is had from `Start`, and after it Y is had, which is good.
  pub has_result : (𝓡 : Running 𝓤 H 𝓜) → Strict 𝓡 → (ρ : Routine) (c : Contract 𝓤) → Triple 𝓤 (𝓡.run ρ) c → (X : Type 0) (bound : X → c.Ghost) (Aside : X → SProp 𝓤) (Start : SProp 𝓤)
      → ent 𝓤 Start (H.⇛ (ex 𝓤 (λ (x : X). Aside x ∗ c.pre (bound x)))) → (Y : Type 0) (P : Y → SProp 𝓤) → ((x : X) (v : Val) → ent 𝓤 (c.post (bound x) v ∗ Aside x) (H.⇛ (ex 𝓤 P)))
      → (Good : Y → Type 0) → ((y : Y) → ent 𝓤 (P y) (fact 𝓤 (Good y))) → (σ : Memory) (F : SProp 𝓤) → Satisfies 𝓤 H 𝓜 σ (Start ∗ F) → ∥ ((y : Y) × Good y) ∥₁
  has_result 𝓡 strict ρ c met X bound Aside Start lends Y P takes Good good σ F s =
      ∥∥₁_elim (sat_ex∗ 𝓤 H 𝓜 σ (λ (x : X). Aside x ∗ c.pre (bound x)) F
      (sat_⇛ 𝓤 H 𝓜 σ (ex 𝓤 (λ (x : X). Aside x ∗ c.pre (bound x))) F (sat_weaken 𝓤 H 𝓜 σ (mono_l 𝓤 F lends) s))) ∥∥₁_prop (λ x.
      let B : SProp 𝓤 = Aside x.0 in
      let E : SProp 𝓤 = c.pre (bound x.0) in
      ∥∥₁_elim (adequate 𝓤 H 𝓜 (tables 𝓤 H 𝓜 𝓡 (λ k. ρ)) strict any_callee c met (bound x.0) σ (B ∗ F)
      (sat_weaken 𝓤 H 𝓜 σ (via 𝓤 ((E ∗ B) ∗ F) (mono_l 𝓤 F (comm∗ 𝓤 B E)) (assoc∗ 𝓤 E B F)) x.1)) ∥∥₁_prop (λ r.
      let G : SProp 𝓤 = c.post (bound x.0) r.1 in
      ∥∥₁_elim (sat_ex∗ 𝓤 H 𝓜 r.2 P F (sat_⇛ 𝓤 H 𝓜 r.2 (ex 𝓤 P) F
      (sat_weaken 𝓤 H 𝓜 r.2 (via 𝓤 ((G ∗ B) ∗ F) (assoc' 𝓤 G B F) (mono_l 𝓤 F (takes x.0 r.1))) r.4))) ∥∥₁_prop (λ y.
      ∥∥₁_map (sat_fact 𝓤 H 𝓜 r.2 (P y.0 ∗ F) (Good y.0)
      (via 𝓤 (P y.0 ∗ F) (snd∗ 𝓤 (𝓜.mem r.2) (P y.0 ∗ F)) (via 𝓤 (P y.0) (fst∗ 𝓤 (P y.0) F) (good y.0))) y.1) (λ g. (y.0, g)))))

  -- with nothing beside it
  pub with_emp : (P : SProp 𝓤) → ent 𝓤 P (P ∗ emp 𝓤)
  with_emp P = via 𝓤 (emp 𝓤 ∗ P) (emp∗ 𝓤 P) (comm∗ 𝓤 (emp 𝓤) P)

  -- ---- bytes in memory, and slices of them

  module _ (b : ℕ) where
    -- bytes in memory are the elements of a slice to write
    to_cells : (ys : List ℕ) (i : ℕ) → ent 𝓤 (run 𝓤 H full_share w8 b i ys) (sem 𝓛 (cells (mem u8) ys b i))
    to_cells [] i = id⊢ 𝓤 (emp 𝓤)
    to_cells (y ∷ ys) i =
        qed 𝓛 (‵ (fat full_share (ty_int w8) b i (vint w8 y)) ∷ raw (run 𝓤 H full_share w8 b (i + 1) ys) ∷ []) ∵
        use1 𝓛 (‵ (part_at u8 full_share y b i)) (uint_in 𝓛 full_share w8 y b i) $ frame ! $ by ! (to_cells ys (i + 1))

    -- and of a slice to read
    to_parts : (ys : List ℕ) (i : ℕ) → ent 𝓤 (run 𝓤 H full_share w8 b i ys) (sem 𝓛 (parts (mem u8) (shares u8) full_share ys b i))
    to_parts [] i = id⊢ 𝓤 (emp 𝓤)
    to_parts (y ∷ ys) i =
        qed 𝓛 (‵ (fat full_share (ty_int w8) b i (vint w8 y)) ∷ raw (run 𝓤 H full_share w8 b (i + 1) ys) ∷ []) ∵
        use1 𝓛 (‵ (part_at u8 full_share y b i)) (uint_in 𝓛 full_share w8 y b i) $ frame ! $ by ! (to_parts ys (i + 1))

    -- and back
    from_cells : (ys : List ℕ) (i : ℕ) → ent 𝓤 (sem 𝓛 (cells (mem u8) ys b i)) (run 𝓤 H full_share w8 b i ys)
    from_cells [] i = id⊢ 𝓤 (emp 𝓤)
    from_cells (y ∷ ys) i =
        qed 𝓛 (‵ (part_at u8 full_share y b i) ∷ ‵ (cells (mem u8) ys b (i + 1)) ∷ []) ∵
        use1 𝓛 (‵ (fat full_share (ty_int w8) b i (vint w8 y))) (uint_out 𝓛 full_share w8 y b i) $ frame ! $ by ! (from_cells ys (i + 1))

    -- bytes fit
    bytes_fit : (ys : List ℕ) (i : ℕ) → ent 𝓤 (run 𝓤 H full_share w8 b i ys) (fact 𝓤 (AllFit w8 ys))
    bytes_fit [] i = fact_i 𝓤 (AllFit w8 []) (emp 𝓤) tt
    bytes_fit (y ∷ ys) i =
        qed 𝓛 (‵ (fat full_share (ty_int w8) b i (vint w8 y)) ∷ raw (run 𝓤 H full_share w8 b (i + 1) ys) ∷ []) ∵ well_typed ! (λ t. keep ! (1 ∷ []) $
        by ! (via 𝓤 (fact 𝓤 (AllFit w8 ys)) (bytes_fit ys (i + 1)) (fact_mono 𝓤 (AllFit w8 ys) (AllFit w8 (y ∷ ys)) (λ p. (t.1, p)))))

    -- the place behind some bytes
    pub behind : ℕ → List ℕ → ℕ
    behind i [] = i
    behind i (y ∷ ys) = behind (i + 1) ys

    -- bytes behind bytes
    pub run_apart : (ys zs : List ℕ) (i : ℕ) → ent 𝓤 (run 𝓤 H full_share w8 b i (ys ++ zs)) (run 𝓤 H full_share w8 b i ys ∗ run 𝓤 H full_share w8 b (behind i ys) zs)
    unfolding behind
    run_apart [] zs i = emp∗ 𝓤 (run 𝓤 H full_share w8 b i zs)
    run_apart (y ∷ ys) zs i =
        let C : SProp 𝓤 = H.at full_share (ty_int w8) b i (vint w8 y) in
        let Y : SProp 𝓤 = run 𝓤 H full_share w8 b (i + 1) ys in
        let Z : SProp 𝓤 = run 𝓤 H full_share w8 b (behind (i + 1) ys) zs in
        via 𝓤 (C ∗ (Y ∗ Z)) (mono_r 𝓤 C (run_apart ys zs (i + 1))) (assoc' 𝓤 C Y Z)

    -- lent to write, and lent to read
    pub lent_mut : (j α o : ℕ) (xs : List ℕ) → Room u8 (length xs) → ent 𝓤 (run 𝓤 H full_share w8 b o xs)
        (H.⇛ (ex 𝓤 (λ (δ : GName). sem 𝓛 ((MutSlice (named j) (α ∷ []) u8).own_val (record { ref_ptr = (b, o); ghost_name = δ; now = xs }) (slice_val (b, o) (length xs) ∷ [])) ∗ A.lent (α ∷ []) (Held u8 (length xs) b o δ))))
    lent_mut j α o xs room = via 𝓤 (sem 𝓛 (cells (mem u8) xs b o)) (to_cells xs o) (lends_slice 𝓛 u8 (named j) (α ∷ []) xs b o room)

    -- to read with a token of the lifetime, which comes back
    pub lent_shr : (j α o : ℕ) (xs : List ℕ) → Room u8 (length xs) → ent 𝓤 (run 𝓤 H full_share w8 b o xs ∗ A.lft (α ∷ []) full_share)
        (H.⇛ ((sem 𝓛 ((ShrSlice (named j) (α ∷ []) u8).own_val (record { ref_ptr = (b, o); now = xs }) (slice_val (b, o) (length xs) ∷ [])) ∗ A.lent (α ∷ []) ((arr_parts (shares u8) (length xs)).part full_share xs b o)) ∗ A.lft (α ∷ []) full_share))
    lent_shr j α o xs room =
        via 𝓤 (sem 𝓛 ((arr_parts (shares u8) (length xs)).part full_share xs b o) ∗ A.lft (α ∷ []) full_share)
        (mono_l 𝓤 (A.lft (α ∷ []) full_share) (qed 𝓛 (raw (run 𝓤 H full_share w8 b o xs) ∷ []) ∵ use1 𝓛 (‵ (parts (mem u8) (shares u8) full_share xs b o)) (to_parts xs o) $ feq_i ! ℕ (length xs) (length xs) refl $ fjoin ! $ done !))
        (lends_shr_slice 𝓛 u8 (named j) (α ∷ []) full_share xs b o room (α ∷ []) ((uint_Copied 𝓛 w8).shares full_share (α ∷ [])) ((α ∷ [], full_share) ∷ []) (Incl-refl (α ∷ [])) (Incl-refl (α ∷ [])))

    -- ---- the slice is taken back: it has the bytes that the contract speaks of

    -- `see` is what Q speaks of in what is bound at exit, and `first` the bytes of the slice in it
    module _ (o : ℕ) (xs : List ℕ) (R Z L : Type 0) (see : L → Z) (first : Z → List ℕ) (Own : R → SProp 𝓤) (More Aside : SProp 𝓤) (Rest : L → Fml) (Q : R → Z → Type 0) (α : ℕ) (δ : GName) where
      abbrev pub Given_back : SProp 𝓤
      Given_back = H.⇛ (ex 𝓤 (λ (r : R). ((A.lft (α ∷ []) full_share ∗ More) ∗ Own r)
          ∗ ex 𝓤 (λ (l : L). sem 𝓛 (fsep (fsep (fsep (finally u8 δ (first (see l))) (feq ℕ (length (first (see l))) (length xs))) (fbor (α ∷ []) (Held u8 (length xs) b o δ))) (Rest l)) ∗ fact 𝓤 (Q r (see l)))))

      abbrev pub Left : R × Z → SProp 𝓤
      Left y = run 𝓤 H full_share w8 b o (first y.1) ∗ fact 𝓤 (Q y.0 y.1)

      -- the lifetime ends, and the lender has the bytes again
      pub taken_back : ent 𝓤 (Given_back ∗ (A.lent (α ∷ []) (Held u8 (length xs) b o δ) ∗ Aside)) (H.⇛ (ex 𝓤 Left))
      taken_back =
          qed 𝓛 (raw Given_back ∷ ‵ (flent (α ∷ []) (Held u8 (length xs) b o δ)) ∷ raw Aside ∷ []) ∵ updating ! $
          use1 𝓛 (later (some (λ (r : R). ((‵ (flft (α ∷ []) full_share) ⊛ raw More) ⊛ raw (Own r))
          ⊛ some (λ (l : L). ‵ (fsep (fsep (fsep (finally u8 δ (first (see l))) (feq ℕ (length (first (see l))) (length xs))) (fbor (α ∷ []) (Held u8 (length xs) b o δ))) (Rest l)) ⊛ raw (fact 𝓤 (Q r (see l))))))) (id⊢ 𝓤 _) $ await ! tt $ pick ! (λ r.
          split ! $ move ! (1 ∷ []) $ pick ! (λ l. split ! $ move ! (1 ∷ []) $ heard ! (Q r (see l)) (λ e.
          fsplit ! $ fsplit ! $ fsplit ! $ move ! (4 ∷ []) $ split ! $ split ! $ lft_end ! tt $ move ! (0 ∷ 7 ∷ 3 ∷ []) $
          use3 𝓛 (later (‵ ((Arr (mem u8) (length xs)).own_at (first (see l)) b o))) (slice_back 𝓛 u8 (α ∷ []) δ (first (see l)) (length xs) b o) $ await ! tt $ fsplit ! $ move ! (1 ∷ []) $ at_once ! $
          suffices ! (Left (r, see l)) (ex_i 𝓤 Left (r, see l)) $ says ! e $ keep ! (0 ∷ []) $ by ! (from_cells (first (see l)) o))))

    -- what holds of them holds, and they are bytes
    pub good_left : (o : ℕ) (ys : List ℕ) (φ : Type 0) → ent 𝓤 (run 𝓤 H full_share w8 b o ys ∗ fact 𝓤 φ) (fact 𝓤 (φ × AllFit w8 ys))
    good_left o ys φ =
        qed 𝓛 (raw (run 𝓤 H full_share w8 b o ys) ∷ raw (fact 𝓤 φ) ∷ []) ∵ move ! (1 ∷ []) $ heard ! φ (λ e.
        by ! (via 𝓤 (fact 𝓤 (AllFit w8 ys)) (bytes_fit ys o) (fact_mono 𝓤 (AllFit w8 ys) (φ × AllFit w8 ys) (λ f. (e, f)))))
