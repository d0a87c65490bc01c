-- A loop that counts what passes a test.
use mathlib.Core.Path.{◌≡◌, ap, sym, ◌∙◌}
use mathlib.Core.Bool.{Bool, true, false}
use mathlib.Core.List.{List, [], ◌∷◌}
use Prim.Native.Nat.{ℕ, ◌+◌, ◌≤◌, ◌<◌}
use lib.ListN.{length, get_or, take, length-append}
use lib.Seq.{take_all}
use Rattle.lists.specs.Keep.{keep}
use Rattle.lists.proofs.KeepLaws.{keep_yes, keep_no}

-- i elements of xs are looked at, and n of them pass
module _ (p : ℕ → Bool) (xs : List ℕ) (i n : ℕ) (done : n ≡ length (keep p (take i xs))) where
  pub count_yes : (k : ℕ) → i < length xs → k ≡ get_or xs i 0 → p k ≡ true → n + 1 ≡ length (keep p (take (i + 1) xs))
  count_yes k h e passes =
      sym
      (ap length (keep_yes p xs i 0 h (ap p (sym e) ∙ passes))
      ∙ length-append (keep p (take i xs)) (get_or xs i 0 ∷ [])
      ∙ ap (λ (m : ℕ). m + 1) (sym done))

  pub count_no : (k : ℕ) → i < length xs → k ≡ get_or xs i 0 → p k ≡ false → n ≡ length (keep p (take (i + 1) xs))
  count_no k h e fails = done ∙ sym (ap length (keep_no p xs i 0 h (ap p (sym e) ∙ fails)))

  pub count-all : length xs ≤ i → n ≡ length (keep p xs)
  count-all h = done ∙ ap (λ (l : List ℕ). length (keep p l)) (take_all i xs h)
