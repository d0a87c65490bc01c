-- Each number of a list once, one place at a time.
use mathlib.Core.Path.{◌≡◌, refl, ap, sym, ◌∙◌}
use mathlib.Core.Bool.{Bool, true, false, not, cond}
use mathlib.Core.List.{List, [], ◌∷◌, ◌++◌, map, append_assoc, append-nil}
use Prim.Native.Nat.{ℕ, ◌+◌, ◌-◌, ◌≤◌, ◌<◌}
use native.Mathlib.Numerals.{add-one}
use native.Mathlib.Omega.{arith}
use borrow.Author.Tests.{eqb-true, eqb-false, eq-eqb, ne_eqb, lt-ltb, le-ltb, not-true, not-false}
use lib.Dec.{eqb}
use lib.ListN.{length, get_or, take, drop, length-append, length-map, take-append-drop, get_or-append}
use lib.Seq.{take-suc, get_or-append-add}
use Rattle.lists.specs.Keep.{keep, without, count, Below}
use Rattle.lists.proofs.KeepLaws.{keep_append, count-without, count-without_other, below-keep, length-keep}
use Rattle.lists.proofs.CountLaws.{length_few}
use Rattle.memory.proofs.RowLaws.{map_at}
use Rattle.tags.specs.Lists.{member}
use Rattle.table.specs.declared.tag.GroupRate.{GroupRate}
use Rattle.settings.specs.Configured.{no_group}
use Rattle.statistics.specs.Numbers.{firsts, is_first, named}

-- one number, where it is new
abbrev once : Bool → ℕ → List ℕ
once known y = cond known [] (y ∷ [])

once_same : (y : ℕ) (b : Bool) → without y (once b y) ≡ []
unfolding keep
once_same y true = refl
once_same y false = rw (eq-eqb y y refl)

once_other : (x y : ℕ) (b : Bool) → (x ≡ y → ⊥) → without x (once b y) ≡ once b y
unfolding keep
once_other x y true n = refl
once_other x y false n = rw (ne_eqb x y n)

-- one number more at the end of a list
firsts_one : (xs : List ℕ) (y : ℕ) → firsts (xs ++ (y ∷ [])) ≡ firsts xs ++ once (member y xs) y
unfolding firsts keep
firsts_one [] y = refl
firsts_one (x ∷ xs) y =
    ap (λ (l : List ℕ). x ∷ without x l) (firsts_one xs y)
    ∙ ap (λ (l : List ℕ). x ∷ l) (keep_append (λ (z : ℕ). not (eqb x z)) (firsts xs) (once (member y xs) y))
    ∙ ap (λ (l : List ℕ). x ∷ (without x (firsts xs) ++ l)) (go (eqb y x) refl)
  where
    go : (b : Bool) → eqb y x ≡ b → without x (once (member y xs) y) ≡ once (cond (eqb y x) true (member y xs)) y
    go true e = rw (e, eqb-true y x e) (once_same x (member x xs))
    go false e = rw e (once_other x y (member y xs) (λ s. eqb-false y x e (sym s)))

module _ (xs : List ℕ) (i : ℕ) (h : i < length xs) where
  pub first_is : is_first xs i ≡ not (member (get_or xs i 0) (take i xs))
  first_is = rw (lt-ltb i (length xs) h)

  step : firsts (take (i + 1) xs) ≡ firsts (take i xs) ++ once (member (get_or xs i 0) (take i xs)) (get_or xs i 0)
  step = ap (λ (n : ℕ). firsts (take n xs)) (add-one i) ∙ ap firsts (take-suc xs i 0 h) ∙ firsts_one (take i xs) (get_or xs i 0)

  pub firsts_yes : is_first xs i ≡ true → firsts (take (i + 1) xs) ≡ firsts (take i xs) ++ (get_or xs i 0 ∷ [])
  firsts_yes e = step ∙ ap (λ (b : Bool). firsts (take i xs) ++ once b (get_or xs i 0)) (not-true (member (get_or xs i 0) (take i xs)) (sym first_is ∙ e))

  pub length_yes : is_first xs i ≡ true → length (firsts (take (i + 1) xs)) ≡ length (firsts (take i xs)) + 1
  length_yes e = ap length (firsts_yes e) ∙ length-append (firsts (take i xs)) (get_or xs i 0 ∷ [])

  pub firsts_no : is_first xs i ≡ false → firsts (take (i + 1) xs) ≡ firsts (take i xs)
  firsts_no e =
      step
      ∙ ap (λ (b : Bool). firsts (take i xs) ++ once b (get_or xs i 0)) (not-false (member (get_or xs i 0) (take i xs)) (sym first_is ∙ e))
      ∙ append-nil (firsts (take i xs))

-- past the end no place is the first with its number
pub first_past : (xs : List ℕ) (i : ℕ) → length xs ≤ i → is_first xs i ≡ false
first_past xs i h = rw (le-ltb i (length xs) h)

pub firsts_none : (xs : List ℕ) → firsts (take 0 xs) ≡ []
unfolding firsts
firsts_none xs = refl

-- a longer list has no fewer
firsts_grow : (a b : List ℕ) → length (firsts a) ≤ length (firsts (a ++ b))
firsts_grow a [] = rw (append-nil a) (omega arith)
firsts_grow a (y ∷ b) =
    let more = ap length (firsts_one a y) ∙ length-append (firsts a) (once (member y a) y) in
    rw (← append_assoc a (y ∷ []) b) (omega (arith, more, firsts_grow (a ++ (y ∷ [])) b))

pub firsts-part : (xs : List ℕ) (i : ℕ) → length (firsts (take i xs)) ≤ length (firsts xs)
firsts-part xs i = omega (arith, firsts_grow (take i xs) (drop i xs), ap (λ (l : List ℕ). length (firsts l)) (take-append-drop i xs))

pub firsts_short : (xs : List ℕ) → length (firsts xs) ≤ length xs
unfolding firsts
firsts_short [] = omega arith
firsts_short (x ∷ xs) = omega (arith, firsts_short xs, length-keep (λ (z : ℕ). not (eqb x z)) (firsts xs))

-- ---- no number twice

firsts_once : (k : ℕ) (xs : List ℕ) → count k (firsts xs) ≤ 1
unfolding firsts
firsts_once k [] = omega arith
firsts_once k (x ∷ xs) = go (eqb k x) refl (firsts_once k xs)
  where
    go : (b : Bool) → eqb k x ≡ b → count k (firsts xs) ≤ 1 → cond (eqb k x) 1 0 + count k (without x (firsts xs)) ≤ 1
    go true e h = rw (e, eqb-true k x e) (omega (arith, count-without x (firsts xs)))
    go false e h = rw e (omega (arith, count-without_other x k (firsts xs) (eqb-false k x e)))

firsts-below : (n : ℕ) (xs : List ℕ) → Below n xs → Below n (firsts xs)
unfolding firsts
firsts-below n [] b = tt
firsts-below n (x ∷ xs) b = (b.0, below-keep n (λ (z : ℕ). not (eqb x z)) (firsts xs) (firsts-below n xs b.1))

-- where every number is below n there are at most n groups
pub firsts_few : (n : ℕ) (xs : List ℕ) → Below n xs → length (firsts xs) ≤ n
firsts_few n xs b = length_few n (firsts xs) (firsts-below n xs b) (λ k. firsts_once k xs)

-- ---- the configured numbers, and the recorded ones after them

module _ (configured : List GroupRate) (recorded : List ℕ) where
  pub length-named : length (named configured recorded) ≡ length configured + length recorded
  length-named =
      length-append (map (λ (x : GroupRate). x.number) configured) recorded
      ∙ ap (λ (n : ℕ). n + length recorded) (length-map configured (λ (x : GroupRate). x.number))

  pub named-configured : (i : ℕ) → i < length configured → (get_or configured i no_group).number ≡ get_or (named configured recorded) i 0
  named-configured i h =
      sym
      (get_or-append (map (λ (x : GroupRate). x.number) configured) recorded 0 i (omega (arith, length-map configured (λ (x : GroupRate). x.number)))
      ∙ map_at (λ (x : GroupRate). x.number) configured i no_group)

  pub named-recorded : (i n : ℕ) → n ≡ length configured → n ≤ i → get_or recorded (i - n) 0 ≡ get_or (named configured recorded) i 0
  named-recorded i n e h =
      let front = map (λ (x : GroupRate). x.number) configured in
      let place : length front + (i - n) ≡ i = omega (arith, length-map configured (λ (x : GroupRate). x.number)) in
      sym (ap (λ (j : ℕ). get_or (front ++ recorded) j 0) (sym place) ∙ get_or-append-add front recorded (i - n) 0)
