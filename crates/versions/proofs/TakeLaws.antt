-- Each element of a list replaced, by its place.
use mathlib.Core.Path.{◌≡◌, refl, ap, sym, ◌∙◌}
use mathlib.Core.List.{List, [], ◌∷◌, ◌++◌}
use Prim.Native.Nat.{ℕ, zero, suc, ◌+◌, ◌<◌}
use native.Mathlib.Nat.{zero-add, add-zero}
use native.Mathlib.Omega.{arith}
use lib.ListN.{length, get_or, set, take, drop}
use lib.Seq.{paste, drop-cons, get_or_at, length-take-le}
use Rattle.memory.proofs.LoopLaws.{fill_more}
use Rattle.versions.specs.Versions.{each_at}

module _ {A : Type 0} (f : ℕ → A → A) where
  pub length_each : (i : ℕ) (l : List A) → length (each_at f i l) ≡ length l
  unfolding each_at
  length_each i [] = refl
  length_each i (x ∷ l) = ap suc (length_each (suc i) l)

  each_from : (i k : ℕ) (l : List A) (d : A) → k < length l → get_or (each_at f i l) k d ≡ f (i + k) (get_or l k d)
  unfolding each_at
  each_from i k [] d h = absurd (omega arith)
  each_from i zero (x ∷ l) d h = ap (λ (n : ℕ). f n x) (sym (add-zero i))
  each_from i (suc k) (x ∷ l) d h =
      let place : suc i + k ≡ i + suc k = omega arith in
      each_from (suc i) k l d (omega arith) ∙ ap (λ (n : ℕ). f n (get_or l k d)) place

  each_at_lem : (k : ℕ) (l : List A) (d : A) → k < length l → get_or (each_at f 0 l) k d ≡ f k (get_or l k d)
  each_at_lem k l d h = each_from 0 k l d h ∙ ap (λ (n : ℕ). f n (get_or l k d)) (zero-add k)

  -- a list T of which the first k elements of l are replaced: one more
  pub each_more : (l T : List A) (k : ℕ) (d : A) → T ≡ paste l 0 (each_at f 0 l) k → k < length l
      → set T k (f k (get_or T k d)) ≡ paste l 0 (each_at f 0 l) (k + 1)
  each_more l T k d done h =
      let long = length_each 0 l in
      fill_more l (each_at f 0 l) T k done (f k (get_or T k d)) d
      (ap (f k) (ap (λ (r : List A). get_or r k d) done ∙ next) ∙ sym (each_at_lem k l d h)) h (omega arith)
    where
      -- the element at k is not replaced yet
      next : get_or (paste l 0 (each_at f 0 l) k) k d ≡ get_or l k d
      next =
          ap (λ (n : ℕ). get_or (take k (each_at f 0 l) ++ drop n l) k d) (zero-add k)
          ∙ ap (λ (r : List A). get_or (take k (each_at f 0 l) ++ r) k d) (drop-cons l k d h)
          ∙ get_or_at (take k (each_at f 0 l)) (get_or l k d) (drop (suc k) l) d k (length-take-le k (each_at f 0 l) (omega (arith, length_each 0 l)))
