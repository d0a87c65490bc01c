-- Rule 8: the tags of a read-back are named once.
use mathlib.Core.Path.{◌≡◌, refl, sym, ◌∙◌}
use mathlib.Core.Bool.{Bool, true, false, cond}
use mathlib.Core.List.{List, [], ◌∷◌}
use Prim.Native.Nat.{ℕ, ◌+◌, ◌-◌, ◌≤◌, ◌<◌}
use native.Mathlib.Omega.{arith}
use borrow.Author.Tests.{eqb-true, ltb-true}
use lib.Dec.{eqb, ltb}
use lib.ListN.{length, get_or}
use Rattle.lists.specs.Keep.{count}
use Rattle.ranks.specs.Ranks.{over, words_of}
use Rattle.ranks.proofs.WordLaws.{word_differs}
use Rattle.writes.specs.ReadBack.{read_back_tags}

-- the word is another tag
pub read-back_once : (words : List ℕ) (k : ℕ) → (1 < get_or words k 0 → get_or words k 0 - 2 ≡ k → ⊥) → (j : ℕ) → count j (read_back_tags words k) ≤ 1
read-back_once words k other j = go (ltb 1 (get_or words k 0)) refl (eqb j k) refl (eqb j (get_or words k 0 - 2)) refl
  where
    go : (b : Bool) → ltb 1 (get_or words k 0) ≡ b → (x : Bool) → eqb j k ≡ x → (y : Bool) → eqb j (get_or words k 0 - 2) ≡ y
        → cond (eqb j k) 1 0 + count j (cond b ((get_or words k 0 - 2) ∷ []) []) ≤ 1
    go true e true f true g = absurd (other (ltb-true 1 (get_or words k 0) e) (sym (eqb-true j (get_or words k 0 - 2) g) ∙ eqb-true j k f))
    go true e true f false g = rw (f, g) (omega arith)
    go true e false f true g = rw (f, g) (omega arith)
    go true e false f false g = rw (f, g) (omega arith)
    go false e true f y g = rw f (omega arith)
    go false e false f y g = rw f (omega arith)

-- as it is in every directory
pub directory_once : (old : List ℕ) (ns : List (List ℕ)) → length ns ≤ length old → length ns ≤ 65534 → (k : ℕ) → k < length ns
    → (j : ℕ) → count j (read_back_tags (over old (words_of ns)) k) ≤ 1
directory_once old ns few small k h = read-back_once (over old (words_of ns)) k (word_differs old ns few small k h)
