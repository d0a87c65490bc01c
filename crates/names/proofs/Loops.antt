-- Each definition that goes along a list, at the place where a loop stands: one element more, and the end.
use mathlib.Core.Path.{◌≡◌, refl, ◌∙◌}
use mathlib.Core.Bool.{Bool, true, false, cond, ◌&&◌}
use mathlib.Core.List.{List, map, [], ◌∷◌}
use Prim.Native.Nat.{ℕ, ◌+◌, ◌-◌, ◌≤◌, ◌<◌}
use native.Mathlib.Numerals.{add-one}
use native.Mathlib.Omega.{arith}
use borrow.Author.Tests.{lt-ltb, le-ltb, le-leb, lt-leb}
use lib.Dec.{ltb, leb, eqb}
use lib.ListN.{length, drop, get_or, drop_of_length-le}
use lib.Seq.{drop-cons}
use Rattle.std.specs.Prelude.{Some, None}
use Rattle.std.proofs.Common.{Ordering, Less, Equal, Greater}
use Rattle.names.specs.Order.{compared, compared_low, lower_of, is_less, is_same}
use Rattle.names.specs.Bits.{last_dot, all_digits}
use Rattle.names.specs.Directory.{good_ends, good_bytes, rising_from, rising}
use Rattle.names.specs.Keys.{below, find}

-- ---- comparing

-- a byte as it is compared
abbrev pub cased : Bool → ℕ → ℕ
cased lowered b = cond lowered (lower_of b) b

-- what is left to compare, with f at each byte
abbrev pub left_at : (ℕ → ℕ) → List ℕ → List ℕ → ℕ → Ordering
left_at f a b i = compared (map f (drop i a)) (map f (drop i b))

module _ (f : ℕ → ℕ) (a b : List ℕ) (i : ℕ) where
  compared_more : i < length a → i < length b
      → left_at f a b i ≡ cond (ltb (f (get_or a i 0)) (f (get_or b i 0))) Less (cond (ltb (f (get_or b i 0)) (f (get_or a i 0))) Greater (left_at f a b (i + 1)))
  unfolding compared
  compared_more h k = rw (drop-cons a i 0 h, drop-cons b i 0 k, add-one)

  pub compared_long : i < length a → length b ≤ i → left_at f a b i ≡ Greater
  unfolding compared
  compared_long h k = rw (drop-cons a i 0 h, drop_of_length-le b k)

  pub compared_short : length a ≤ i → i < length b → left_at f a b i ≡ Less
  unfolding compared
  compared_short h k = rw (drop-cons b i 0 k, drop_of_length-le a h)

  pub compared_end : length a ≤ i → length b ≤ i → left_at f a b i ≡ Equal
  unfolding compared
  compared_end h k = rw (drop_of_length-le a h, drop_of_length-le b k)

  -- what a test of the two bytes at i makes of it
  pub compared_less : i < length a → i < length b → f (get_or a i 0) < f (get_or b i 0) → left_at f a b i ≡ Less
  compared_less h k l = compared_more h k ∙ simp (lt-ltb _ _ l)

  pub compared_greater : i < length a → i < length b → f (get_or b i 0) < f (get_or a i 0) → left_at f a b i ≡ Greater
  compared_greater h k l = compared_more h k ∙ simp (le-ltb (f (get_or a i 0)) (f (get_or b i 0)) (omega arith), lt-ltb _ _ l)

  pub compared_on : i < length a → i < length b → f (get_or b i 0) ≤ f (get_or a i 0) → f (get_or a i 0) ≤ f (get_or b i 0) → left_at f a b i ≡ left_at f a b (i + 1)
  compared_on h k l m = compared_more h k ∙ simp (le-ltb _ _ l, le-ltb _ _ m)

  -- two bytes that are alike are alike as they are compared
  pub compared_alike : i < length a → i < length b → get_or a i 0 ≡ get_or b i 0 → left_at f a b i ≡ left_at f a b (i + 1)
  compared_alike h k e =
      let at : f (get_or a i 0) ≡ f (get_or b i 0) = simp e in
      compared_on h k (omega arith) (omega arith)

-- ---- bits

pub dot_more : (s : List ℕ) (i last : ℕ) → i < length s → last_dot i last (drop i s) ≡ last_dot (i + 1) (cond (eqb (get_or s i 0) 46) i last) (drop (i + 1) s)
unfolding last_dot
dot_more s i last h = rw (drop-cons s i 0 h, add-one)

pub dot_end : (s : List ℕ) (i last : ℕ) → length s ≤ i → last_dot i last (drop i s) ≡ last
unfolding last_dot
dot_end s i last h = rw (drop_of_length-le s h)

pub digits_more : (s : List ℕ) (i : ℕ) → i < length s → all_digits (drop i s) ≡ (leb 48 (get_or s i 0) && (leb (get_or s i 0) 57 && all_digits (drop (i + 1) s)))
unfolding all_digits
digits_more s i h = rw (drop-cons s i 0 h, add-one)

pub digits_end : (s : List ℕ) (i : ℕ) → length s ≤ i → all_digits (drop i s) ≡ true
unfolding all_digits
digits_end s i h = rw (drop_of_length-le s h)

-- ---- checks 2 to 4

module _ (long size at i : ℕ) (ends : List ℕ) (h : i < length ends) where
  ends_more : good_ends long at (drop i ends) size
      ≡ (leb at (get_or ends i 0) && (leb (get_or ends i 0) size && (ltb 0 (get_or ends i 0 - at) && (leb (get_or ends i 0 - at) long && good_ends long (get_or ends i 0) (drop (i + 1) ends) size))))
  unfolding good_ends
  ends_more = rw (drop-cons ends i 0 h, add-one)

  -- an end place that isn't above the one before gives length 0
  pub ends_back : get_or ends i 0 ≤ at → good_ends long at (drop i ends) size ≡ false
  ends_back l =
      let none : get_or ends i 0 - at ≡ 0 = omega arith in
      ends_more ∙ simp none (either (leb at (get_or ends i 0)) (leb (get_or ends i 0) size))
    where
      either : (s t : Bool) → (s && (t && false)) ≡ false
      either true true = refl
      either true false = refl
      either false t = refl

  pub ends_past : at < get_or ends i 0 → size < get_or ends i 0 → good_ends long at (drop i ends) size ≡ false
  ends_past l m = ends_more ∙ simp (le-leb at (get_or ends i 0) (omega arith), lt-leb _ _ m)

  pub ends_long : at < get_or ends i 0 → get_or ends i 0 ≤ size → long < get_or ends i 0 - at → good_ends long at (drop i ends) size ≡ false
  ends_long l m n = ends_more ∙ simp (le-leb at (get_or ends i 0) (omega arith), le-leb _ _ m, lt-ltb 0 (get_or ends i 0 - at) (omega arith), lt-leb _ _ n)

  pub ends_on : at < get_or ends i 0 → get_or ends i 0 ≤ size → get_or ends i 0 - at ≤ long
      → good_ends long at (drop i ends) size ≡ good_ends long (get_or ends i 0) (drop (i + 1) ends) size
  ends_on l m n = ends_more ∙ simp (le-leb at (get_or ends i 0) (omega arith), le-leb _ _ m, lt-ltb 0 (get_or ends i 0 - at) (omega arith), le-leb _ _ n)

pub ends_end : (long size at i : ℕ) (ends : List ℕ) → length ends ≤ i → good_ends long at (drop i ends) size ≡ eqb at size
unfolding good_ends
ends_end long size at i ends h = rw (drop_of_length-le ends h)

pub bytes_more : (s : List ℕ) (i : ℕ) → i < length s → good_bytes (drop i s) ≡ (leb 33 (get_or s i 0) && (leb (get_or s i 0) 126 && good_bytes (drop (i + 1) s)))
unfolding good_bytes
bytes_more s i h = rw (drop-cons s i 0 h, add-one)

pub bytes_end : (s : List ℕ) (i : ℕ) → length s ≤ i → good_bytes (drop i s) ≡ true
unfolding good_bytes
bytes_end s i h = rw (drop_of_length-le s h)

pub rising_start : (ns : List (List ℕ)) → rising ns ≡ rising_from (get_or ns 0 []) (drop 1 ns)
unfolding rising rising_from
rising_start [] = refl
rising_start (n ∷ ns) = refl

pub rising_more : (ns : List (List ℕ)) (i : ℕ) (a b : List ℕ) (t : Bool) → i < length ns → a ≡ get_or ns (i - 1) [] → b ≡ get_or ns i [] → t ≡ is_less (compared a b)
    → rising_from (get_or ns (i - 1) []) (drop i ns) ≡ (t && rising_from (get_or ns (i + 1 - 1) []) (drop (i + 1) ns))
unfolding rising_from
rising_more ns i a b t h p q r =
    let z : i + 1 - 1 ≡ i = omega arith in
    rw (drop-cons ns i [] h, ← p, ← q, ← r, z, ← q, add-one)

pub rising_end : (ns : List (List ℕ)) (before : List ℕ) (i : ℕ) → length ns ≤ i → rising_from before (drop i ns) ≡ true
unfolding rising_from
rising_end ns before i h = rw (drop_of_length-le ns h)

-- ---- keys and words

pub below_more : (m n : List ℕ) (ns : List (List ℕ)) (i : ℕ) (t : Bool) → i < length ns → n ≡ get_or ns i [] → t ≡ is_less (compared_low n m)
    → below m (drop i ns) ≡ cond t 1 0 + below m (drop (i + 1) ns)
unfolding below
below_more m n ns i t h p q = rw (drop-cons ns i [] h, ← p, ← q, add-one)

pub below_end : (m : List ℕ) (ns : List (List ℕ)) (i : ℕ) → length ns ≤ i → below m (drop i ns) ≡ 0
unfolding below
below_end m ns i h = rw (drop_of_length-le ns h)

pub find_more : (x n : List ℕ) (ns : List (List ℕ)) (i : ℕ) (t : Bool) → i < length ns → n ≡ get_or ns i [] → t ≡ is_same (compared n x)
    → find x i (drop i ns) ≡ cond t (Some i) (find x (i + 1) (drop (i + 1) ns))
unfolding find
find_more x n ns i t h p q = rw (drop-cons ns i [] h, ← p, ← q, add-one)

pub find_end : (x : List ℕ) (ns : List (List ℕ)) (i : ℕ) → length ns ≤ i → find x i (drop i ns) ≡ None
unfolding find
find_end x ns i h = rw (drop_of_length-le ns h)
