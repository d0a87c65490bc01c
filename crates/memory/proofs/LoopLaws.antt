-- Loops over lists, of any length and over any change: an array filled place by place, each element replaced.
use mathlib.Core.Path.{◌≡◌, refl, ap, sym, ◌∙◌}
use mathlib.Core.List.{List, ◌++◌, map, map-append, append_assoc, append-nil}
use Prim.Native.Nat.{ℕ, suc, ◌+◌, ◌≤◌, ◌<◌}
use native.Mathlib.Nat.{zero-add}
use native.Mathlib.Numerals.{add-one}
use native.Mathlib.Omega.{arith}
use lib.ListN.{length, get_or, set, take, drop, length-map, length-append, length-drop, drop_of_length-le}
use lib.Seq.{paste, paste-suc, take_all, take-length, drop-length, take-suc, drop-cons, length-take-le, get_or_at, set_at}

-- ---- a list w, at first d, filled from src: j places are done

module _ {ℓ} {A : Type ℓ} (d src w : List A) (j : ℕ) (done : w ≡ paste d 0 src j) where
  pub fill_more : (v z : A) → v ≡ get_or src j z → j < length d → j < length src → set w j v ≡ paste d 0 src (j + 1)
  fill_more v z f hd hs =
      ap (λ (l : List A). set l j v) done
      ∙ ap (set (paste d 0 src j) j) f
      ∙ ap (λ (n : ℕ). set (paste d 0 src j) n (get_or src j z)) (sym (zero-add j))
      ∙ paste-suc d 0 src j z (omega arith) hs
      ∙ ap (paste d 0 src) (sym (add-one j))

  pub fill_all : j ≡ length src → length d ≡ length src → w ≡ src
  fill_all all hd =
      done
      ∙ ap (paste d 0 src) all
      ∙ ap (λ (r : List A). take (length src) src ++ r) (drop_of_length-le d {i = 0 + length src} (omega arith))
      ∙ append-nil (take (length src) src)
      ∙ take_all (length src) src (omega arith)

-- ---- a list whose elements before i are replaced by f of them

abbrev pub mapped {ℓ} : {A : Type ℓ} → (A → A) → ℕ → List A → List A
mapped f i l = map f (take i l) ++ drop i l

module _ {ℓ} {A : Type ℓ} (f : A → A) (l : List A) where
  front : (i : ℕ) → i ≤ length l → length (map f (take i l)) ≡ i
  front i h = length-map (take i l) f ∙ length-take-le i l h

  pub mapped_none : l ≡ mapped f 0 l
  mapped_none = refl

  pub mapped_read : (i : ℕ) (d : A) → i < length l → get_or (mapped f i l) i d ≡ get_or l i d
  mapped_read i d h =
      ap (λ (r : List A). get_or (map f (take i l) ++ r) i d) (drop-cons l i d h)
      ∙ get_or_at (map f (take i l)) (get_or l i d) (drop (suc i) l) d i (front i (omega arith))

  pub mapped_more : (i : ℕ) (d : A) → i < length l → set (mapped f i l) i (f (get_or l i d)) ≡ mapped f (i + 1) l
  mapped_more i d h =
      ap (λ (r : List A). set (map f (take i l) ++ r) i (f (get_or l i d))) (drop-cons l i d h)
      ∙ set_at (map f (take i l)) (get_or l i d) (drop (suc i) l) (f (get_or l i d)) i (front i (omega arith))
      ∙ sym (rw (add-one, take-suc l i d h, map-append, append_assoc))

  pub mapped_all : (i : ℕ) → i ≡ length l → mapped f i l ≡ map f l
  mapped_all i h = rw (h, take-length, drop-length, append-nil)

  pub length_of_mapped : (i : ℕ) → i ≤ length l → length (mapped f i l) ≡ length l
  length_of_mapped i h = length-append (map f (take i l)) (drop i l) ∙ omega (arith, front i h, length-drop i l)
