-- Blocks of one width: where each is read, and what a store over one of them changes.
use mathlib.Core.Path.{◌≡◌, refl, ap, sym, ◌∙◌}
use mathlib.Core.List.{List, ◌∷◌, ◌++◌, append_assoc}
use Prim.Native.Nat.{ℕ, zero, suc, ◌+◌, ◌*◌, ◌≤◌, ◌<◌}
use native.Mathlib.Nat.{mul-suc, mul-zero, zero-add, add_comm}
use native.Mathlib.Omega.{arith}
use lib.ListN.{length, get_or, set, take, drop, length-drop, take-append-drop}
use lib.Seq.{sets, sets-eq, drop_at, drop-drop, take-add, length-take-le}
use Rattle.memory.specs.Blocks.{blocks}

module _ {ℓ κ} {A : Type ℓ} {B : Type κ} (f : List A → B) (w : ℕ) where
  pub length-blocks : (n : ℕ) (l : List A) → length (blocks f w n l) ≡ n
  unfolding blocks
  length-blocks zero l = refl
  length-blocks (suc n) l = ap suc (length-blocks n (drop w l))

  next : (k : ℕ) → w * suc k ≡ w + w * k
  next k = mul-suc w k ∙ add_comm (w * k) w

  pub blocks_at : (n k : ℕ) (l : List A) (d : B) → k < n → get_or (blocks f w n l) k d ≡ f (drop (w * k) l)
  unfolding blocks
  blocks_at zero k l d h = absurd (omega arith)
  blocks_at (suc n) zero l d h = ap (λ (i : ℕ). f (drop i l)) (sym (mul-zero w))
  blocks_at (suc n) (suc k) l d h =
      blocks_at n k (drop w l) d (omega arith)
      ∙ ap f (drop-drop (w * k) w l ∙ ap (λ (i : ℕ). drop i l) (sym (next k)))

  -- where f looks no further than w places
  module _ (within : (a b : List A) → length a ≡ w → f (a ++ b) ≡ f a) where
    first : (n : ℕ) (a b : List A) → length a ≡ w → blocks f w (suc n) (a ++ b) ≡ f a ∷ blocks f w n b
    unfolding blocks
    first n a b h =
        ap (λ (x : B). x ∷ blocks f w n (drop w (a ++ b))) (within a b h)
        ∙ ap (λ (r : List A). f a ∷ blocks f w n r) (drop_at a b w h)

    first_of : (n : ℕ) (l : List A) → w ≤ length l → blocks f w (suc n) l ≡ f (take w l) ∷ blocks f w n (drop w l)
    first_of n l h =
        ap (blocks f w (suc n)) (sym (take-append-drop w l))
        ∙ first n (take w l) (drop w l) (length-take-le w l h)

    -- block k is replaced
    pub blocks_put : (n k : ℕ) (l v : List A) → k < n → w * n ≤ length l → length v ≡ w
        → blocks f w n (take (w * k) l ++ (v ++ drop (w * k + w) l)) ≡ set (blocks f w n l) k (f v)
    unfolding blocks
    blocks_put zero k l v h m e = absurd (omega arith)
    blocks_put (suc n) zero l v h m e =
        rw (mul-zero w, zero-add w) (first n v (drop w l) e)
    blocks_put (suc n) (suc k) l v h m e =
        let from : w * suc k + w ≡ w + (w * k + w) = omega (arith, next k) in
        let wide : w ≤ length l = omega (arith, next n) in
        let rest = take (w * k) (drop w l) ++ (v ++ drop (w * k + w) (drop w l)) in
        let same : take (w * suc k) l ++ (v ++ drop (w * suc k + w) l) ≡ take w l ++ rest =
        ap (λ (x : List A). x ++ (v ++ drop (w * suc k + w) l)) (ap (λ (i : ℕ). take i l) (next k) ∙ take-add w (w * k) l)
        ∙ append_assoc (take w l) (take (w * k) (drop w l)) (v ++ drop (w * suc k + w) l)
        ∙ ap (λ (x : List A). take w l ++ (take (w * k) (drop w l) ++ (v ++ x)))
        (ap (λ (i : ℕ). drop i l) from ∙ sym (drop-drop (w * k + w) w l))
        in
        ap (blocks f w (suc n)) same
        ∙ first n (take w l) rest (length-take-le w l wide)
        ∙ ap (λ (x : List B). f (take w l) ∷ x)
        (blocks_put n k (drop w l) v (omega arith) (omega (arith, length-drop w l, next n)) e)
        ∙ ap (λ (x : List B). set x (suc k) (f v)) (sym (first_of n l wide))

    -- the same, stored place by place
    pub blocks_sets : (n k : ℕ) (l v : List A) → k < n → w * n ≤ length l → length v ≡ w → w * k + w ≤ length l
        → blocks f w n (sets l (w * k) v) ≡ set (blocks f w n l) k (f v)
    blocks_sets n k l v h m e p =
        ap (blocks f w n)
        (sets-eq v l (w * k) (omega arith)
        ∙ append_assoc (take (w * k) l) v (drop (w * k + length v) l)
        ∙ ap (λ (i : ℕ). take (w * k) l ++ (v ++ drop (w * k + i) l)) e)
        ∙ blocks_put n k l v h m e
