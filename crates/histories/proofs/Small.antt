-- A small engine with S 2: it meets all that the laws ask of an engine, and a turn occurs in its histories.
use mathlib.Core.Path.{◌≡◌, refl, ◌∙◌}
use mathlib.Core.Bool.{Bool, true, false, cond}
use mathlib.Core.List.{List, [], ◌∷◌}
use Prim.Native.Nat.{ℕ, zero, suc, ◌+◌}
use native.Mathlib.Omega.{arith}
use lib.Dec.{eqb, ltb}
use borrow.Author.Tests.{eqb-true, eqb-false, ltb-true, ltb-false, lt-ltb, le-ltb}
use Rattle.lists.specs.Keep.{count, up_to}
use Rattle.lists.specs.Slices.{slice, next}
use Rattle.lists.proofs.KeepLaws.{count-append}
use Rattle.histories.specs.Events.{Event, quiet, retiered, took, BoundaryRound, boundary_rounds, EveryTurnOfRounds}
use Rattle.histories.specs.Histories.{Did, calls, Happened, at_each, trace, AsRuled}
use Rattle.histories.specs.Respects.{Respects}
use Rattle.histories.proofs.HistoryLaws.{claim, possible}

-- the tags below n are in tier 2
record Small : Type 0 where
  n : ℕ
  index : ℕ

data Call : Type 0 where
  look : Call
  tiers : ℕ → Call
  round : Call

abbrev listed : Small → List ℕ
listed s = up_to s.n

-- more than four tags are refused
abbrev step : Call → Small → Small
step look s = s
step (tiers n) s = cond (ltb 4 n) s (record { n = n; index = s.index })
step round s = record { n = s.n; index = next 2 (listed s) s.index }

abbrev answer : Call → Small → List ℕ
answer look s = listed s
answer (tiers n) s = cond (ltb 4 n) (23 ∷ []) (0 ∷ [])
answer round s = slice 2 (listed s) s.index

abbrev event : Call → Small → Event
event look s = quiet
event (tiers n) s = cond (ltb 4 n) quiet retiered
event round s = took false (λ (t : ℕ). ltb t s.n) (slice 2 (listed s) s.index)

-- ---- it respects rule 6

count-up_to : (t n : ℕ) → count t (up_to n) ≡ cond (ltb t n) 1 0
unfolding up_to
count-up_to t zero = rw (le-ltb t 0 (omega arith))
count-up_to t (suc n) = count-append t (up_to n) (n ∷ []) ∙ go (ltb t n) refl (eqb t n) refl (count-up_to t n)
  where
    go : (a : Bool) → ltb t n ≡ a → (b : Bool) → eqb t n ≡ b → count t (up_to n) ≡ cond (ltb t n) 1 0 → count t (up_to n) + (cond (eqb t n) 1 0 + 0) ≡ cond (ltb t (suc n)) 1 0
    go true p true q e = absurd (omega (arith, ltb-true t n p, eqb-true t n q))
    go true p false q e = rw (e, p, q, lt-ltb t (suc n) (omega (arith, ltb-true t n p)))
    go false p true q e = rw (e, p, q, lt-ltb t (suc n) (omega (arith, eqb-true t n q)))
    go false p false q e = let d : t ≡ n → ⊥ = eqb-false t n q in rw (e, p, q, le-ltb t (suc n) (omega (arith, ltb-false t n p)))

respects : (c : Call) (s : Small) → Unit {0} → Respects 2 (λ (x : Small). x.index) listed s (event c s) (step c s)
unfolding Respects
respects look s v = (refl, refl)
respects (tiers n) s v = go (ltb 4 n)
  where
    go : (b : Bool) → Respects 2 (λ (x : Small). x.index) listed s (cond b quiet retiered) (cond b s (record { n = n; index = s.index }))
    go true = (refl, refl)
    go false = refl
respects round s v = (λ h. refl, refl, refl, λ t. count-up_to t s.n)

-- ---- the claim, with contracts that are equations

abbrev Asked : Call → Small → Type 0
Asked c s = Unit {0}

abbrev Learnt : Call → Small → List ℕ → Small → Type 0
Learnt c s a l = (a ≡ answer c s) × (l ≡ step c s)

abbrev fresh : Small
fresh = record { n = 0; index = 0 }

demand_3 : (h : List (Did Call (List ℕ) Small)) → Happened Asked Learnt fresh h
    → AsRuled Asked (λ (s : Small). s) step answer fresh h × EveryTurnOfRounds 2 (trace step event (calls h) fresh)
demand_3 =
    claim Asked Learnt (λ (s : Small). s) step answer (λ s. Unit {0}) (λ c s v. tt) (λ c s a l v p. (p.0, p.1, tt))
    event 2 (λ (s : Small). s.index) listed (λ s. Unit {0}) (λ c s v. tt) respects fresh tt tt (omega arith)

every_list : (cs : List Call) → (h : List (Did Call (List ℕ) Small)) × (calls h ≡ cs) × Happened Asked Learnt fresh h
every_list cs = possible Asked Learnt (λ s. Unit {0}) (λ c s v. (answer c s, step c s, (refl, refl), tt)) cs fresh tt

-- ---- a turn: the first two rounds, with a look and a refused call between them; the third round begins another

abbrev some_calls : List Call
some_calls = tiers 3 ∷ round ∷ look ∷ tiers 9 ∷ round ∷ tiers 4 ∷ round ∷ []

abbrev taken : Bool → ℕ → List ℕ → BoundaryRound
taken since n names = record { ran_out = false; retiered_since = since; tier2 = λ (t : ℕ). ltb t n; names = names }

a_turn : boundary_rounds false (trace step event some_calls fresh) ≡ taken true 3 (0 ∷ 1 ∷ []) ∷ taken false 3 (2 ∷ []) ∷ taken true 4 (0 ∷ 1 ∷ []) ∷ []
unfolding boundary_rounds at_each up_to slice next
a_turn = refl
