-- The first changes of a list, one after the other.
use mathlib.Core.Path.{◌≡◌, refl, ap, ◌∙◌}
use mathlib.Core.Bool.{Bool, true, false}
use mathlib.Core.List.{List, [], ◌∷◌, ◌++◌}
use Prim.Native.Nat.{ℕ, zero, suc, ◌+◌, ◌*◌, ◌%◌, ◌<◌, min}
use native.Mathlib.Nat.{not-suc-le-zero}
use native.Mathlib.Numerals.{add-one}
use native.Mathlib.Omega.{arith}
use lib.Dec.{ltb}
use lib.ListN.{length, get_or, take, length-append, get_or-append}
use lib.Seq.{take_all, get_or_at}
use borrow.Author.Tests.{ltb-true, ltb-false}
use Rattle.memory.specs.Cells.{cells_in}
use Rattle.names.specs.Directory.{max_names}
use Rattle.words.specs.Entry.{entry_from}
use Rattle.changes.specs.declared.Change.{Change}
use Rattle.changes.specs.Changes.{change_in, changes_from, told}

-- one more
pub changes_next : (cells : List ℕ) (n : ℕ) → changes_from cells (n + 1) ≡ changes_from cells n ++ (change_in cells n ∷ [])
unfolding changes_from
changes_next cells n = ap (changes_from cells) (add-one n)

pub length_changes : (cells : List ℕ) (n : ℕ) → length (changes_from cells n) ≡ n
unfolding changes_from
length_changes cells zero = refl
length_changes cells (suc n) = length-append (changes_from cells n) (change_in cells n ∷ []) ∙ ap (λ (m : ℕ). m + 1) (length_changes cells n) ∙ add-one n

-- the change that the cells read make
pub change_read : (cells : List ℕ) (i tag held kind word t error message : ℕ)
    → tag ≡ get_or cells (9 * i) 0 → held ≡ get_or cells (9 * i + 1) 0 → kind ≡ get_or cells (9 * i + 2) 0 → word ≡ get_or cells (9 * i + 3) 0
    → t ≡ get_or cells (9 * i + 4) 0 → error ≡ get_or cells (9 * i + 5) 0 → message ≡ get_or cells (9 * i + 6) 0
    → ◌≡◌ {A = Change} (record { tag = tag % 65536; entry = entry_from (record { held = held; kind = kind; word = word; t = t; error = error; message = message }) }) (change_in cells i)
unfolding change_in
change_read cells i tag held kind word t error message a b c d e f g =
    let at : (j k : ℕ) → j ≡ k → get_or cells j 0 ≡ get_or cells k 0 = λ j k p. ap (λ (m : ℕ). get_or cells m 0) p in
    rw (a, b, c ∙ at (9 * i + 2) (9 * i + 1 + 1) (omega arith), d ∙ at (9 * i + 3) (9 * i + 1 + 2) (omega arith), e ∙ at (9 * i + 4) (9 * i + 1 + 3) (omega arith), f ∙ at (9 * i + 5) (9 * i + 1 + 4) (omega arith), g ∙ at (9 * i + 6) (9 * i + 1 + 5) (omega arith))

-- all of them, as the first of them
pub told_whole : (list : List ℕ) (n : ℕ) → take (min n max_names) (told list n) ≡ told list n
told_whole list n = take_all (min n max_names) (told list n) (omega (arith, length_changes (cells_in list) (min n max_names)))

-- record i is the change of cells 9i to 9i + 8
changes_at : (cells : List ℕ) (n i : ℕ) (d : Change) → i < n → get_or (changes_from cells n) i d ≡ change_in cells i
unfolding changes_from
changes_at cells zero i d h = absurd (not-suc-le-zero h)
changes_at cells (suc n) i d h = go (ltb i n) refl (changes_at cells n i d)
  where
    go : (z : Bool) → ltb i n ≡ z → (i < n → get_or (changes_from cells n) i d ≡ change_in cells i) → get_or (changes_from cells n ++ (change_in cells n ∷ [])) i d ≡ change_in cells i
    go true e before =
        get_or-append (changes_from cells n) (change_in cells n ∷ []) d i (omega (arith, length_changes cells n, ltb-true i n e)) ∙ before (ltb-true i n e)
    go false e before =
        let last : n ≡ i = omega (arith, ltb-false i n e) in
        get_or_at (changes_from cells n) (change_in cells n) [] d i (length_changes cells n ∙ last) ∙ ap (change_in cells) last

pub told_at : (list : List ℕ) (n i : ℕ) (d : Change) → i < min n max_names → get_or (told list n) i d ≡ change_in (cells_in list) i
told_at list n i d h = changes_at (cells_in list) (min n max_names) i d h
