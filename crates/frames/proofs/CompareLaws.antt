-- Where two lists part, and where one has another byte, at the place where a loop stands: one byte more, and the end.
use mathlib.Core.Path.{◌≡◌}
use mathlib.Core.Bool.{cond}
use mathlib.Core.List.{List}
use Prim.Native.Nat.{ℕ, ◌+◌, ◌≤◌, ◌<◌}
use native.Mathlib.Numerals.{add-one}
use lib.Dec.{eqb}
use lib.ListN.{length, drop, get_or, drop_of_length-le}
use lib.Seq.{drop-cons}
use Rattle.frames.specs.Compare.{parting, unlike}

module _ (a b : List ℕ) (i : ℕ) where
  pub parting-at : i < length a → i < length b
      → parting i (drop i a) (drop i b) ≡ cond (eqb (get_or a i 0) (get_or b i 0)) (parting (i + 1) (drop (i + 1) a) (drop (i + 1) b)) i
  unfolding parting
  parting-at h k = rw (drop-cons a i 0 h, drop-cons b i 0 k, add-one)

  pub parting_short : i < length a → length b ≤ i → parting i (drop i a) (drop i b) ≡ i
  unfolding parting
  parting_short h k = rw (drop-cons a i 0 h, drop_of_length-le b {i = i} k)

  pub parting_end : length a ≤ i → parting i (drop i a) (drop i b) ≡ i
  unfolding parting
  parting_end h = rw (drop_of_length-le a {i = i} h)

module _ (s : List ℕ) (b i : ℕ) where
  pub unlike-at : i < length s
      → unlike i (drop i s) b ≡ cond (eqb (get_or s i 0) b) (unlike (i + 1) (drop (i + 1) s) b) i
  unfolding unlike
  unlike-at h = rw (drop-cons s i 0 h, add-one)

  pub unlike_end : length s ≤ i → unlike i (drop i s) b ≡ i
  unfolding unlike
  unlike_end h = rw (drop_of_length-le s {i = i} h)
