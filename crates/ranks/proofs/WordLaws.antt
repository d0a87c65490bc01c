-- Rule 8: the words in memory: a number above 1 is the tag of the word and 2, and the word is another tag of the directory.
use mathlib.Core.Path.{◌≡◌, refl, ap, ◌∙◌}
use mathlib.Core.Bool.{Bool, true, false, cond}
use mathlib.Core.List.{List, []}
use Prim.Native.Nat.{ℕ, ◌-◌, ◌%◌, ◌≤◌, ◌<◌}
use native.Mathlib.Omega.{arith}
use lib.ListN.{length, get_or}
use Rattle.std.specs.Prelude.{Option, Some, None}
use Rattle.names.specs.Bits.{split_bit, is_bit}
use Rattle.names.specs.Keys.{word_of}
use Rattle.names.proofs.WordLaws.{word_other, word_inside}
use Rattle.ranks.specs.Ranks.{over, found_code, word_code, words_of}
use Rattle.ranks.proofs.Laws.{over-at, each_long, each_at_lem}

module _ (old : List ℕ) (ns : List (List ℕ)) (few : length ns ≤ length old) (small : length ns ≤ 65534) (k : ℕ) (h : k < length ns) where
  -- the number in memory for the tag k
  abbrev code : ℕ
  code = get_or (over old (words_of ns)) k 0

  code_is : code ≡ word_code ns k % 65536
  code_is =
      over-at old (words_of ns) k (omega (arith, each_long (word_code ns) (length ns))) (omega (arith, each_long (word_code ns) (length ns)))
      ∙ each_at_lem (word_code ns) (length ns) k h

  pub word_coded : 1 < code → word_of ns k ≡ Some (code - 2)
  word_coded some = go (is_bit (split_bit (get_or ns k []))) (word_of ns k) refl code_is
    where
      go : (b : Bool) (f : Option ℕ) → word_of ns k ≡ f → code ≡ cond b (found_code f) 0 % 65536 → word_of ns k ≡ Some (code - 2)
      go false f e c = absurd (omega arith)
      go true None e c = absurd (omega arith)
      go true (Some t) e c =
          let inside : t < length ns = word_inside ns k t e in
          let t_is : t ≡ code - 2 = omega arith in
          e ∙ ap Some t_is

  pub word_differs : 1 < code → code - 2 ≡ k → ⊥
  word_differs some = word_other ns k (code - 2) (word_coded some)

  pub word_below : 1 < code → code - 2 < length ns
  word_below some = word_inside ns k (code - 2) (word_coded some)
