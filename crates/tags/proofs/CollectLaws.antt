-- Loops that collect what passes a test onto a list of tags, over any test.
use mathlib.Core.Path.{◌≡◌, refl, ap, sym, ◌∙◌}
use mathlib.Core.Bool.{Bool, true, false}
use mathlib.Core.List.{List, [], ◌∷◌, ◌++◌}
use Prim.Native.Nat.{ℕ, ◌+◌, ◌%◌, ◌≤◌, ◌<◌}
use native.Mathlib.Nat.{mod-eq_of_lt}
use native.Mathlib.Omega.{arith}
use borrow.Author.Tests.{ltb-true, ltb-false}
use lib.Dec.{ltb}
use lib.ListN.{length, get_or, take, length-append}
use lib.Seq.{take_all, take-append-le, length-take-le}
use Rattle.lists.specs.Keep.{keep}
use Rattle.lists.proofs.KeepLaws.{keep_yes, keep_no, length-keep-take}
use Rattle.tags.specs.Lists.{pushed}
use Rattle.tags.proofs.ListLaws.{pushed_more, pushed_full}

-- ---- a list o onto which what passes p is pushed: i elements of xs are looked at, and there is room for n

module _ (p : ℕ → Bool) (xs : List ℕ) where
  pub collect_none : [] ≡ keep p (take 0 xs)
  unfolding keep
  collect_none = refl

  module _ (i : ℕ) (o : List ℕ) (done : o ≡ keep p (take i xs)) where
    pub collect_yes : (n k d : ℕ) → i < length xs → length xs ≤ n → k < 65536 → k ≡ get_or xs i d → p k ≡ true
        → pushed n o (k % 65536) ≡ keep p (take (i + 1) xs)
    collect_yes n k d h fits small e passes =
        let free : length o < n = rw done (omega (arith, length-keep-take p xs i)) in
        ap (pushed n o) (mod-eq_of_lt small)
        ∙ pushed_more n o k free
        ∙ rw (done, e) (sym (keep_yes p xs i d h (ap p (sym e) ∙ passes)))

    pub collect_no : (k d : ℕ) → i < length xs → k ≡ get_or xs i d → p k ≡ false → o ≡ keep p (take (i + 1) xs)
    collect_no k d h e fails = done ∙ sym (keep_no p xs i d h (ap p (sym e) ∙ fails))

    pub collect_all : length xs ≤ i → o ≡ keep p xs
    collect_all h = done ∙ ap (keep p) (take_all i xs h)

-- ---- the same where room may run out: what comes too late is dropped

pub pushed_clipped : (n : ℕ) (ys : List ℕ) (k : ℕ) → pushed n (take n ys) k ≡ take n (ys ++ (k ∷ []))
pushed_clipped n ys k = by_test (ltb (length ys) n) refl
  where
    by_test : (b : Bool) → ltb (length ys) n ≡ b → pushed n (take n ys) k ≡ take n (ys ++ (k ∷ []))
    by_test true e =
        let h = ltb-true (length ys) n e in
        ap (λ (l : List ℕ). pushed n l k) (take_all n ys (omega arith))
        ∙ pushed_more n ys k h
        ∙ sym (take_all n (ys ++ (k ∷ [])) (omega (arith, length-append ys (k ∷ []))))
    by_test false e =
        let h = ltb-false (length ys) n e in
        pushed_full n (take n ys) k (omega (arith, length-take-le n ys h)) ∙ sym (take-append-le n ys (k ∷ []) h)

module _ (p : ℕ → Bool) (xs : List ℕ) (n i : ℕ) (o : List ℕ) (done : o ≡ take n (keep p (take i xs))) where
  pub clipped_yes : (k d : ℕ) → i < length xs → k < 65536 → k ≡ get_or xs i d → p k ≡ true
      → pushed n o (k % 65536) ≡ take n (keep p (take (i + 1) xs))
  clipped_yes k d h small e passes =
      ap (pushed n o) (mod-eq_of_lt small)
      ∙ ap (λ (l : List ℕ). pushed n l k) done
      ∙ pushed_clipped n (keep p (take i xs)) k
      ∙ ap (take n) (rw e (sym (keep_yes p xs i d h (ap p (sym e) ∙ passes))))

  pub clipped_no : (k d : ℕ) → i < length xs → k ≡ get_or xs i d → p k ≡ false → o ≡ take n (keep p (take (i + 1) xs))
  clipped_no k d h e fails = done ∙ ap (take n) (sym (keep_no p xs i d h (ap p (sym e) ∙ fails)))

  pub clipped_all : length xs ≤ i → o ≡ take n (keep p xs)
  clipped_all h = done ∙ ap (λ (l : List ℕ). take n (keep p l)) (take_all i xs h)
