-- From the contracts of the calls, one for each, to one claim about a list of calls.
use mathlib.Core.Path.{◌≡◌, refl, ap, ap₂, ◌∙◌}
use mathlib.Core.List.{List, [], ◌∷◌}
use Prim.Native.Nat.{ℕ, ◌<◌}
use Rattle.histories.specs.Events.{Event, Each, EveryTurnOfRounds}
use Rattle.histories.specs.Histories.{Did, calls, Ready, Happened, at_each, answers, trace, states, AsRuled}
use Rattle.histories.specs.Respects.{Respects}
use Rattle.histories.proofs.TurnLaws.{turns}

-- ---- the rules

module _ {Call State : Type 0} (step : Call → State → State) (Sound : State → Type 0) (keeps : (c : Call) (s : State) → Sound s → Sound (step c s)) where
  -- what every call keeps holds after each call of a list
  pub each_state : (cs : List Call) (s : State) → Sound s → Each (states step cs s) Sound
  unfolding Each at_each
  each_state [] s v = tt
  each_state (c ∷ cs) s v = (keeps c s v, each_state cs (step c s) (keeps c s v))

-- ---- the code

-- `view` is what the rules see of an engine in code. `Fit` is what every engine in code meets; a call of such an engine can be made, and comes to what the rules say.
module _ {Call Answer Code State : Type 0} (Asked : Call → Code → Type 0) (Learnt : Call → Code → Answer → Code → Type 0) (view : Code → State)
    (step : Call → State → State) (answer : Call → State → Answer) (Fit : Code → Type 0)
    (ready : (c : Call) (e : Code) → Fit e → Asked c e)
    (said : (c : Call) (e : Code) (a : Answer) (l : Code) → Fit e → Learnt c e a l → (a ≡ answer c (view e)) × (view l ≡ step c (view e)) × Fit l) where
  pub as_ruled : (h : List (Did Call Answer Code)) (e : Code) → Fit e → Happened Asked Learnt e h → AsRuled Asked view step answer e h
  unfolding Happened Ready at_each
  as_ruled [] e v p = record { could = tt; same = refl; kept = refl }
  as_ruled (d ∷ ds) e v p =
      let q = ready d.call e v in
      let r = said d.call e d.answer d.left v (p.0 q) in
      let rest = as_ruled ds d.left r.2 p.1 in
      record {
        could = (q, rest.could);
        same = ap₂ {C = List Answer} (λ (x : Answer) (l : List Answer). x ∷ l) r.0 (rest.same ∙ ap (answers step answer (calls ds)) r.1);
        kept = ap₂ {C = List State} (λ (x : State) (l : List State). x ∷ l) r.1 (rest.kept ∙ ap (states step (calls ds)) r.1);
      }

  -- demand 3 of a history
  module _ (event : Call → State → Event) (S : ℕ) (index : State → ℕ) (listed : State → List ℕ) (Sound : State → Type 0)
      (keeps : (c : Call) (s : State) → Sound s → Sound (step c s))
      (respects : (c : Call) (s : State) → Sound s → Respects S index listed s (event c s) (step c s)) where
    pub claim : (e : Code) → Fit e → Sound (view e) → index (view e) < S → (h : List (Did Call Answer Code)) → Happened Asked Learnt e h
        → AsRuled Asked view step answer e h × EveryTurnOfRounds S (trace step event (calls h) (view e))
    claim e f v b h p = (as_ruled h e f p, turns step event S index listed Sound keeps respects (view e) v b (calls h))

-- ---- every list of calls has a history, where each call has a result that its contract allows

module _ {Call Answer Code : Type 0} (Asked : Call → Code → Type 0) (Learnt : Call → Code → Answer → Code → Type 0) (Fit : Code → Type 0)
    (does : (c : Call) (e : Code) → Fit e → (a : Answer) × (l : Code) × Learnt c e a l × Fit l) where
  pub possible : (cs : List Call) (e : Code) → Fit e → (h : List (Did Call Answer Code)) × (calls h ≡ cs) × Happened Asked Learnt e h
  unfolding Happened
  possible [] e v = ([], refl, tt)
  possible (c ∷ cs) e v =
      let d = does c e v in
      let rest = possible cs d.1 d.3 in
      (record { call = c; answer = d.0; left = d.1 } ∷ rest.0, ap (λ (x : List Call). c ∷ x) rest.1, (λ q. d.2, rest.2))
