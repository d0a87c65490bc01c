-- An engine whose calls respect rule 6 names each tier-2 tag exactly once in every full turn.
use mathlib.Core.Path.{◌≡◌, refl, ap, ap₂, ◌∙◌, subst}
use mathlib.Core.Bool.{Bool, true, false, cond, true≢false}
use mathlib.Core.List.{List, [], ◌∷◌, ◌++◌}
use Prim.Native.Nat.{ℕ, ◌<◌}
use lib.ListN.{length}
use Rattle.lists.specs.Keep.{count}
use Rattle.lists.specs.Slices.{slice, next, slices}
use Rattle.lists.proofs.SliceLaws.{turn, next-below}
use Rattle.histories.specs.Events.{Event, quiet, retiered, took, BoundaryRound, boundary_rounds, all_names, Each, Undisturbed, RestUndisturbed, EveryTurnOfRounds}
use Rattle.histories.specs.Histories.{at_each, trace}
use Rattle.histories.specs.Respects.{Respects}

each : {A : Type 0} (xs : List A) (P Q : A → Type 0) → ((x : A) → P x → Q x) → Each xs P → Each xs Q
unfolding Each
each [] P Q f h = tt
each (x ∷ xs) P Q f h = (f x h.0, each xs P Q f h.1)

-- ---- boundary rounds alone

-- l names each tag that is in tier 2 at the round once, and no other
abbrev Exact : List ℕ → BoundaryRound → Type 0
Exact l r = (t : ℕ) → count t l ≡ cond (r.tier2 t) 1 0

module _ (S : ℕ) where
  -- The rounds go by rule 6, from the index i on. l is the tier-2 tags in slice order at the round before, m those as the first slice here is taken.
  Follow : ℕ → List ℕ → List BoundaryRound → Type 0
  Follow i l [] = Unit {0}
  Follow i l (r ∷ rs) = (m : List ℕ) × (Undisturbed r → m ≡ l) × (r.names ≡ slice S m i) × Exact m r × Follow (next S m i) m rs

  -- the rounds left over go by it too, from some index on
  later : (before rest : List BoundaryRound) (i : ℕ) (l : List ℕ) → i < S → Follow i l (before ++ rest) → (j : ℕ) × (m : List ℕ) × (j < S) × Follow j m rest
  unfolding Follow
  later [] rest i l h f = (i, l, h, f)
  later (r ∷ before) rest i l h f = later before rest (next S f.0 i) f.0 (next-below S f.0 i h) f.4

  -- undisturbed rounds take slices of one list
  one_list : (rs after : List BoundaryRound) (i : ℕ) (l : List ℕ) → Each rs Undisturbed → Follow i l (rs ++ after)
      → (all_names rs ≡ slices S l (length rs) i) × Each rs (Exact l)
  unfolding Follow Each all_names slices
  one_list [] after i l u f = (refl, tt)
  one_list (r ∷ rs) after i l u f =
      let m : f.0 ≡ l = f.1 u.0 in
      let rest = one_list rs after (next S l i) l u.1 (subst (λ (k : List ℕ). Follow (next S k i) k (rs ++ after)) m f.4) in (
        ap₂ (λ (x y : List ℕ). x ++ y) (f.2 ∙ ap (λ (k : List ℕ). slice S k i) m) rest.0,
        (subst (λ (k : List ℕ). Exact k r) m f.3, rest.1),
      )

  -- a turn at the front
  front : (rs after : List BoundaryRound) (i : ℕ) (l : List ℕ) → i < S → length rs ≡ S → RestUndisturbed rs → Follow i l (rs ++ after) → Each rs (Exact (all_names rs))
  unfolding Follow Each RestUndisturbed all_names slices
  front [] after i l h n u f = tt
  front (r ∷ rs) after i l h n u f =
      let m : List ℕ = f.0 in
      let rest = one_list rs after (next S m i) m u f.4 in
      let all : r.names ++ all_names rs ≡ slices S m S i = ap₂ (λ (x y : List ℕ). x ++ y) f.2 rest.0 ∙ ap (λ (k : ℕ). slices S m k i) n in
      let once : (t : ℕ) → count t (r.names ++ all_names rs) ≡ count t m = λ t. ap (count t) all ∙ turn S m t i h in
      (λ t. once t ∙ f.3 t, each rs (Exact m) (Exact (r.names ++ all_names rs)) (λ x g t. once t ∙ g t) rest.1)

  every_turn : (events : List Event) (i : ℕ) (l : List ℕ) → i < S → Follow i l (boundary_rounds false events) → EveryTurnOfRounds S events
  unfolding EveryTurnOfRounds
  every_turn events i l h f before rs after e n u =
      let from = later before (rs ++ after) i l h (subst (Follow i l) e f) in
      front rs after from.0 from.1 from.2 n u from.3

-- ---- any engine

-- `Sound` is what every state of the engine meets.
module _ {Call State : Type 0} (step : Call → State → State) (event : Call → State → Event) (S : ℕ) (index : State → ℕ) (listed : State → List ℕ) (Sound : State → Type 0)
    (keeps : (c : Call) (s : State) → Sound s → Sound (step c s))
    (respects : (c : Call) (s : State) → Sound s → Respects S index listed s (event c s) (step c s)) where
  -- from the state s on the rounds of these events go by rule 6; where no tier call or load was accepted since the round before, its tier-2 tags are those of s
  Onward : State → List Event → Type 0
  Onward s events = (since : Bool) (l : List ℕ) → (since ≡ false → listed s ≡ l) → Follow S (index s) l (boundary_rounds since events)

  one_call : (s s' : State) (did : Event) (events : List Event) → Respects S index listed s did s' → Onward s' events → Onward s (did ∷ events)
  unfolding Onward Respects Follow boundary_rounds
  one_call s s' quiet events r o since l h = subst (λ (i : ℕ). Follow S i l (boundary_rounds since events)) r.0 (o since l (λ z. r.1 ∙ h z))
  one_call s s' retiered events r o since l h = subst (λ (i : ℕ). Follow S i l (boundary_rounds true events)) r (o true l (λ z. absurd (true≢false z)))
  one_call s s' (took ran_out tier2 names) events r o since l h = (
    listed s',
    λ u. r.0 u.0 ∙ h u.1,
    r.1,
    r.3,
    subst (λ (i : ℕ). Follow S i (listed s') (boundary_rounds false events)) r.2 (o false (listed s') (λ z. refl)),
  )

  onward : (cs : List Call) (s : State) → Sound s → Onward s (trace step event cs s)
  unfolding Onward Follow boundary_rounds at_each
  onward [] s v = λ since l h. tt
  onward (c ∷ cs) s v = one_call s (step c s) (event c s) (trace step event cs (step c s)) (respects c s v) (onward cs (step c s) (keeps c s v))

  -- Demand 3 of every list of calls, from a state with an index below S on.
  pub turns : (s : State) → Sound s → index s < S → (cs : List Call) → EveryTurnOfRounds S (trace step event cs s)
  unfolding Onward
  turns s v h cs = every_turn S (trace step event cs s) (index s) (listed s) h (onward cs s v false (listed s) (λ z. refl))
