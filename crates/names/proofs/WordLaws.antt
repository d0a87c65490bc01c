-- What `find` answers: a tag that has the name, or that none has; among rising names it is the only one. No tag is its own word.
use mathlib.Core.Path.{◌≡◌, refl, ap, sym, ◌∙◌}
use mathlib.Core.Bool.{Bool, true, false, cond, true≢false}
use mathlib.Core.List.{List, [], ◌∷◌}
use Prim.Native.Nat.{ℕ, zero, suc, ◌+◌, ◌-◌, ◌<◌, min}
use native.Mathlib.Nat.{not-suc-le-zero, le_of_suc-le-suc}
use native.Mathlib.Omega.{arith}
use lib.ListN.{length, get_or, length-append, length-take}
use Rattle.std.specs.Prelude.{Option, Some, None}
use Rattle.names.specs.Order.{compared, is_same}
use Rattle.names.specs.Bits.{split_bit}
use Rattle.names.specs.Directory.{piece, rising}
use Rattle.names.specs.Keys.{find, word_in, word_of}
use Rattle.names.proofs.BitLaws.{word_split}
use Rattle.names.proofs.OrderLaws.{compared_refl, same_equal, is_same_lem}
use Rattle.names.proofs.RankLaws.{rising_above, rising-rest}

-- tag i has the name x among names of which the first is tag `at`
record Has (x : List ℕ) (at : ℕ) (ns : List (List ℕ)) (i : ℕ) : Type 0 where
  place : ℕ
  tag : i ≡ at + place
  within : place < length ns
  name : get_or ns place [] ≡ x

found : (x : List ℕ) (at : ℕ) (ns : List (List ℕ)) (i : ℕ) → find x at ns ≡ Some i → Has x at ns i
unfolding find
found x at [] i e = let z : true ≡ false = cc in absurd (true≢false z)
found x at (n ∷ ns) i e = go (is_same (compared n x)) refl e (λ p. found x (suc at) ns i p)
  where
    go : (t : Bool) → is_same (compared n x) ≡ t → cond t (Some at) (find x (suc at) ns) ≡ Some i → (find x (suc at) ns ≡ Some i → Has x (suc at) ns i) → Has x at (n ∷ ns) i
    go true d p again =
        let q : at ≡ i = cc in
        record { place = 0; tag = omega arith; within = omega arith; name = same_equal n x (is_same_lem _ d) }
    go false d p again =
        let r = again p in
        record { place = suc r.place; tag = omega (arith, r.tag); within = omega (arith, r.within); name = r.name }

-- a tag that is found has the name
pub find_has : (x : List ℕ) (ns : List (List ℕ)) (tag : ℕ) → find x 0 ns ≡ Some tag → (tag < length ns) × (get_or ns tag [] ≡ x)
find_has x ns tag e =
    let h = found x 0 ns tag e in
    let q : tag ≡ h.place = omega (arith, h.tag) in
    (omega (arith, h.within), rw q h.name)

missed : (x : List ℕ) (at : ℕ) (ns : List (List ℕ)) → find x at ns ≡ None → (k : ℕ) → k < length ns → get_or ns k [] ≡ x → ⊥
unfolding find
missed x at [] e k h p = absurd (not-suc-le-zero h)
missed x at (n ∷ ns) e k h p = go (is_same (compared n x)) refl e (λ q j l r. missed x (suc at) ns q j l r) k h p
  where
    go : (t : Bool) → is_same (compared n x) ≡ t → cond t (Some at) (find x (suc at) ns) ≡ None
        → (find x (suc at) ns ≡ None → (j : ℕ) → j < length ns → get_or ns j [] ≡ x → ⊥) → (j : ℕ) → j < suc (length ns) → get_or (n ∷ ns) j [] ≡ x → ⊥
    go true d q again j l r = let z : true ≡ false = cc in true≢false z
    go false d q again zero l r =
        let y : is_same (compared n x) ≡ true = rw r (ap is_same (compared_refl x)) in
        let z : true ≡ false = cc in
        true≢false z
    go false d q again (suc j) l r = again q j (le_of_suc-le-suc l) r

-- a name that is nowhere is no tag's
pub find_not : (x : List ℕ) (ns : List (List ℕ)) → find x 0 ns ≡ None → (tag : ℕ) → tag < length ns → get_or ns tag [] ≡ x → ⊥
find_not x ns e tag h p = missed x 0 ns e tag h p

found_at : (ns : List (List ℕ)) (at k : ℕ) → rising ns ≡ true → k < length ns → find (get_or ns k []) at ns ≡ Some (at + k)
unfolding find rising
found_at [] at k e h = absurd (not-suc-le-zero h)
found_at (n ∷ ns) at zero e h =
    let y : is_same (compared n n) ≡ true = ap is_same (compared_refl n) in
    let z : at + 0 ≡ at = omega arith in
    rw (y, z)
found_at (n ∷ ns) at (suc k) e h =
    let y : is_same (compared n (get_or ns k [])) ≡ false = ap is_same (rising_above n ns e k (le_of_suc-le-suc h)) in
    let z : at + suc k ≡ suc at + k = omega arith in
    rw (y, z) (found_at ns (suc at) k (rising-rest n ns e) (le_of_suc-le-suc h))

-- among rising names a name is found at its own tag
pub find_at : (ns : List (List ℕ)) (tag : ℕ) → rising ns ≡ true → tag < length ns → find (get_or ns tag []) 0 ns ≡ Some tag
find_at ns tag e h = let z : 0 + tag ≡ tag = omega arith in found_at ns 0 tag e h ∙ ap Some z

-- the word of a bit is the tag that has the name of the word
pub word_at : (ns : List (List ℕ)) (tag w k : ℕ) → rising ns ≡ true → split_bit (get_or ns tag []) ≡ Some w → k < length ns → get_or ns k [] ≡ piece 0 w (get_or ns tag []) → word_of ns tag ≡ Some k
word_at ns tag w k e b h n = ap (word_in ns (get_or ns tag [])) b ∙ ap (λ (x : List ℕ). find x 0 ns) (sym n) ∙ find_at ns k e h

-- no name is its own word: a word is shorter than its bit
pub word_other : (ns : List (List ℕ)) (tag k : ℕ) → word_of ns tag ≡ Some k → k ≡ tag → ⊥
word_other ns tag k e same = go (split_bit (get_or ns tag [])) refl e
  where
    go : (b : Option ℕ) → split_bit (get_or ns tag []) ≡ b → word_in ns (get_or ns tag []) b ≡ Some k → ⊥
    go None f g = let z : true ≡ false = cc in true≢false z
    go (Some w) f g =
        let s = word_split (get_or ns tag []) w f in
        let long : length (get_or ns tag []) ≡ w + suc (length s.digits) = ap length s.whole ∙ length-append s.word (46 ∷ s.digits) ∙ ap (λ (n : ℕ). n + suc (length s.digits)) s.size in
        let own : length (get_or ns tag []) ≡ min (w - 0) (length (get_or ns tag [])) =
        ap (λ (t : ℕ). length (get_or ns t [])) (sym same) ∙ ap length (find_has (piece 0 w (get_or ns tag [])) ns k g).1 ∙ length-take (w - 0) (get_or ns tag []) in
        omega arith

-- the word of a bit is a tag of the directory
pub word_inside : (ns : List (List ℕ)) (tag k : ℕ) → word_of ns tag ≡ Some k → k < length ns
word_inside ns tag k e = go (split_bit (get_or ns tag [])) e
  where
    go : (b : Option ℕ) → word_in ns (get_or ns tag []) b ≡ Some k → k < length ns
    go None g = let z : true ≡ false = cc in absurd (true≢false z)
    go (Some w) g = (find_has (piece 0 w (get_or ns tag [])) ns k g).0
