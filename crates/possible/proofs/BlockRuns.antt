-- A memory in which a new block holds a list of numbers, and such a list lent to read.
use mathlib.Core.Path.{◌≡◌, refl}
use mathlib.Core.Logic.{∥∥₁_prop, ∥∥₁_elim, ∥∥₁_map}
use mathlib.Core.List.{List, [], ◌∷◌}
use mathlib.Core.Option.{some}
use Prim.Native.Nat.{ℕ, ◌+◌}
use seplogic.Ra.Ura.{Ura}
use base.Fraction.{full_share}
use seplogic.Bi.Sat
use seplogic.Bi.Sat.{Sat}
use lib.Dec.{T}
use lib.ListN.{length}
use mir.Syntax.{Width, Ty, named, ty_int, ty_array}
use mir.Val.{Val, vint, bytes, WT, has_ty}
use base.Logic.{SProp, ent, sep, ex, emp, upd, guard, via, comm∗, assoc∗, assoc', mono_l, mono_r, fst∗, snd∗, emp∗, id⊢, ex_i, ex∗, upd_mono, upd_frame, Sat_exists}
use base.Fml.{Incl-refl, fat}
use prog.Memory.{Memory, alloc_m, store_m}
use prog.Wp.{Heap, run}
use prog.Model.{Model, AllFit}
use types.Logic.{Logic, sem}
use types.Kit.{‵, raw, ◌$◌, ◌∵◌, !, qed, by, use1, feq_i, fjoin, frame, done}
use types.Share.{parts, arr_parts}
use contract.Adequate.{Satisfies, sat_weaken, sat_upd}
use denote.Copied.{uint_Copied}
use denote.Lend.{lends_shr_slice}
use denote.Memory.{part_at, mem as mem-of, shares}
use denote.Plain.{UInt, uint_in}
use denote.Slice.{slice_val, ShrSlice, Room}

module _ {M : Type 1} (𝓤 : Ura M) (H : Heap 𝓤) (𝓜 : Model 𝓤 H) where
  open 𝓜 use {mem}

  abbrev ◌∗◌ : SProp 𝓤 → SProp 𝓤 → SProp 𝓤
  P ∗ Q = sep 𝓤 P Q

  infixr 35 ◌∗◌
  -- a value stored where there is room for it
  stored : (τ : Ty) (b o : ℕ) (v : Val) → T (has_ty τ v) → WT v → (σ : Memory) (F : SProp 𝓤) → Satisfies 𝓤 H 𝓜 σ (H.room τ b o ∗ F)
      → ∥ ((σ' : Memory) × Satisfies 𝓤 H 𝓜 σ' (H.at full_share τ b o v ∗ F)) ∥₁
  unfolding Satisfies
  stored τ b o v t w σ F s =
      let R : SProp 𝓤 = H.room τ b o in
      let There : SProp 𝓤 = H.at full_share τ b o v in
      let G : Memory → SProp 𝓤 = λ σ'. upd 𝓤 (mem σ' ∗ (There ∗ F)) in
      let all : Sat 𝓤.op (ex 𝓤 G)
      = Sat.mono 𝓤.op
      (via 𝓤 ((mem σ ∗ R) ∗ F) (assoc' 𝓤 (mem σ) R F)
      (via 𝓤 (ex 𝓤 (λ (σ' : Memory). guard 𝓤 (store_m σ τ b o v ≡ some σ') (upd 𝓤 (mem σ' ∗ There))) ∗ F) (mono_l 𝓤 F (𝓜.room_store σ τ b o v t w))
      (ex∗ 𝓤 (λ (σ' : Memory). guard 𝓤 (store_m σ τ b o v ≡ some σ') (upd 𝓤 (mem σ' ∗ There))) F (λ σ'.
      ex∗ 𝓤 (λ (_ : store_m σ τ b o v ≡ some σ'). upd 𝓤 (mem σ' ∗ There)) F (λ e.
      via 𝓤 (upd 𝓤 ((mem σ' ∗ There) ∗ F)) (upd_frame 𝓤 (mem σ' ∗ There) F)
      (via 𝓤 (upd 𝓤 (mem σ' ∗ (There ∗ F))) (upd_mono 𝓤 (assoc∗ 𝓤 (mem σ') There F)) (ex_i 𝓤 G σ'))))))) s in
      ∥∥₁_map (Sat_exists 𝓤 G all) (λ x. (x.0, Sat.bupd 𝓤 (mem x.0 ∗ (There ∗ F)) x.1))

  -- a new block
  made : (τ : Ty) (σ : Memory) (F : SProp 𝓤) → Satisfies 𝓤 H 𝓜 σ F → Satisfies 𝓤 H 𝓜 (alloc_m σ τ) (H.room τ (length σ) 0 ∗ F)
  made τ σ F s =
      let σ' = alloc_m σ τ in
      let R : SProp 𝓤 = H.room τ (length σ) 0 in
      let D : SProp 𝓤 = H.dies τ (length σ) in
      sat_upd 𝓤 H 𝓜 σ σ' F (R ∗ F)
      (via 𝓤 (upd 𝓤 (mem σ' ∗ (R ∗ D)) ∗ F) (mono_l 𝓤 F (𝓜.alloc σ τ))
      (via 𝓤 (upd 𝓤 ((mem σ' ∗ (R ∗ D)) ∗ F)) (upd_frame 𝓤 (mem σ' ∗ (R ∗ D)) F)
      (upd_mono 𝓤 (via 𝓤 (mem σ' ∗ ((R ∗ D) ∗ F)) (assoc∗ 𝓤 (mem σ') (R ∗ D) F) (mono_r 𝓤 (mem σ') (mono_l 𝓤 F (fst∗ 𝓤 R D))))))) s

  -- ---- numbers in a new block

  module _ (w : Width) (same : (n : ℕ) → T (has_ty (ty_int w) (vint w n))) where
    abbrev rooms : ℕ → ℕ → List ℕ → SProp 𝓤
    rooms b o vs = H.room (ty_array (ty_int w) (length vs)) b o

    -- room for numbers is filled, one after the other
    filled : (vs : List ℕ) → AllFit w vs → (b o : ℕ) (σ : Memory) (F : SProp 𝓤) → Satisfies 𝓤 H 𝓜 σ (rooms b o vs ∗ F) → ∥ ((σ' : Memory) × Satisfies 𝓤 H 𝓜 σ' (run 𝓤 H full_share w b o vs ∗ F)) ∥₁
    filled [] f b o σ F s = ∣ (σ, sat_weaken 𝓤 H 𝓜 σ (via 𝓤 F (snd∗ 𝓤 (rooms b o []) F) (emp∗ 𝓤 F)) s) ∣₁
    filled (v ∷ vs) f b o σ F s =
        let τ = ty_int w in
        let R : SProp 𝓤 = H.room τ b o in
        let There : SProp 𝓤 = H.at full_share τ b o (vint w v) in
        let Rest : SProp 𝓤 = rooms b (o + bytes w) vs in
        let L : SProp 𝓤 = run 𝓤 H full_share w b (o + bytes w) vs in
        let apart = sat_weaken 𝓤 H 𝓜 σ (via 𝓤 ((R ∗ Rest) ∗ F) (mono_l 𝓤 F (𝓜.room_uncons τ (length vs) b o)) (assoc∗ 𝓤 R Rest F)) s in
        ∥∥₁_elim (stored τ b o (vint w v) (same v) f.0 σ (Rest ∗ F) apart) ∥∥₁_prop (λ x.
        let next = sat_weaken 𝓤 H 𝓜 x.0 (via 𝓤 ((There ∗ Rest) ∗ F) (assoc' 𝓤 There Rest F) (via 𝓤 ((Rest ∗ There) ∗ F) (mono_l 𝓤 F (comm∗ 𝓤 There Rest)) (assoc∗ 𝓤 Rest There F))) x.1 in
        ∥∥₁_map (filled vs f.1 b (o + bytes w) x.0 (There ∗ F) next) (λ y.
        (y.0, sat_weaken 𝓤 H 𝓜 y.0 (via 𝓤 ((L ∗ There) ∗ F) (assoc' 𝓤 L There F) (mono_l 𝓤 F (comm∗ 𝓤 L There))) y.1)))

    -- a memory with one block more, which holds the numbers
    pub held : (vs : List ℕ) → AllFit w vs → (σ : Memory) (F : SProp 𝓤) → Satisfies 𝓤 H 𝓜 σ F → ∥ ((σ' : Memory) × (b : ℕ) × Satisfies 𝓤 H 𝓜 σ' (run 𝓤 H full_share w b 0 vs ∗ F)) ∥₁
    held vs f σ F s =
        let τ = ty_array (ty_int w) (length vs) in
        ∥∥₁_map (filled vs f (length σ) 0 (alloc_m σ τ) F (made τ σ F s)) (λ x. (x.0, length σ, x.1))

-- ---- numbers lent to read

module _ {M : Type 1} {𝓤 : Ura M} (𝓛 : Logic 𝓤) (w : Width) (b : ℕ) where
  -- numbers in memory are the elements of a slice
  open 𝓛 use {H, A}

  to_elements : (ys : List ℕ) (i : ℕ) → ent 𝓤 (run 𝓤 H full_share w b i ys) (sem 𝓛 (parts (mem-of (UInt w)) (shares (UInt w)) full_share ys b i))
  to_elements [] i = id⊢ 𝓤 (emp 𝓤)
  to_elements (y ∷ ys) i =
      qed 𝓛 (‵ (fat full_share (ty_int w) b i (vint w y)) ∷ raw (run 𝓤 H full_share w b (i + bytes w) ys) ∷ []) ∵
      use1 𝓛 (‵ (part_at (UInt w) full_share y b i)) (uint_in 𝓛 full_share w y b i) $ frame ! $ by ! (to_elements ys (i + bytes w))

  -- lent with a token of the lifetime, which comes back
  pub lent_numbers : (j α o : ℕ) (xs : List ℕ) → Room (UInt w) (length xs) → ent 𝓤 (sep 𝓤 (run 𝓤 H full_share w b o xs) (A.lft (α ∷ []) full_share))
      (H.⇛ (sep 𝓤 (sep 𝓤 (sem 𝓛 ((ShrSlice (named j) (α ∷ []) (UInt w)).own_val (record { ref_ptr = (b, o); now = xs }) (slice_val (b, o) (length xs) ∷ []))) (A.lent (α ∷ []) ((arr_parts (shares (UInt w)) (length xs)).part full_share xs b o))) (A.lft (α ∷ []) full_share)))
  lent_numbers j α o xs room =
      via 𝓤 (sep 𝓤 (sem 𝓛 ((arr_parts (shares (UInt w)) (length xs)).part full_share xs b o)) (A.lft (α ∷ []) full_share))
      (mono_l 𝓤 (A.lft (α ∷ []) full_share) (qed 𝓛 (raw (run 𝓤 H full_share w b o xs) ∷ []) ∵ use1 𝓛 (‵ (parts (mem-of (UInt w)) (shares (UInt w)) full_share xs b o)) (to_elements xs o) $ feq_i ! ℕ (length xs) (length xs) refl $ fjoin ! $ done !))
      (lends_shr_slice 𝓛 (UInt w) (named j) (α ∷ []) full_share xs b o room (α ∷ []) ((uint_Copied 𝓛 w).shares full_share (α ∷ [])) ((α ∷ [], full_share) ∷ []) (Incl-refl (α ∷ [])) (Incl-refl (α ∷ [])))
