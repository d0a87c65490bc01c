-- Halves of two bytes.
use mathlib.Core.Path.{◌≡◌, refl, ap, sym, ◌∙◌}
use mathlib.Core.Bool.{Bool, true, false}
use mathlib.Core.List.{List, ◌++◌}
use Prim.Native.Nat.{ℕ, ◌*◌, ◌/◌, ◌%◌, ◌≤◌, ◌<◌}
use native.Mathlib.Nat.{add-zero}
use native.Mathlib.Omega.{arith}
use borrow.Author.Tests.{ltb-true, ltb-false}
use lib.Dec.{ltb}
use lib.ListN.{length, get_or, set, drop, get_or-append, get_or-eq_default}
use lib.Seq.{sets, length-sets, get_or-drop, set_out}
use Rattle.memory.specs.Blocks.{blocks}
use Rattle.memory.specs.Halves.{half_bytes, half_at, halves_in}
use Rattle.memory.proofs.BlockLaws.{length-blocks, blocks_at, blocks_sets}

-- a number's two bytes, and what they hold of it
half_bytes_lem : (v : ℕ) → half_at (half_bytes v) 0 ≡ v % 65536
half_bytes_lem v = omega arith

half_within : (a b : List ℕ) → length a ≡ 2 → half_at (a ++ b) 0 ≡ half_at a 0
half_within a b h = simp (get_or-append a b 0 0 (omega arith), get_or-append a b 0 1 (omega arith))

half_drop : (bs : List ℕ) (k : ℕ) → half_at (drop k bs) 0 ≡ half_at bs k
half_drop bs k = simp (get_or-drop, add-zero)

pub length_halves : (bs : List ℕ) → length (halves_in bs) ≡ length bs / 2
unfolding halves_in
length_halves bs = length-blocks (λ (b : List ℕ). half_at b 0) 2 (length bs / 2) bs

pub halves_same : (a b : List ℕ) → length a ≡ length b → length (halves_in a) ≡ length (halves_in b)
halves_same a b e = length_halves a ∙ ap (λ (n : ℕ). n / 2) e ∙ sym (length_halves b)

pub halves_at : (bs : List ℕ) (i : ℕ) → i < length bs / 2 → get_or (halves_in bs) i 0 ≡ half_at bs (2 * i)
unfolding halves_in
halves_at bs i h = blocks_at (λ (b : List ℕ). half_at b 0) 2 (length bs / 2) i bs 0 h ∙ half_drop bs (2 * i)

pub halves_put : (bs : List ℕ) (i v : ℕ) → i < length bs / 2 → halves_in (sets bs (2 * i) (half_bytes v)) ≡ set (halves_in bs) i (v % 65536)
unfolding halves_in
halves_put bs i v h =
    ap (λ (n : ℕ). blocks (λ (b : List ℕ). half_at b 0) 2 (n / 2) (sets bs (2 * i) (half_bytes v))) (length-sets bs (2 * i) (half_bytes v))
    ∙ blocks_sets (λ (b : List ℕ). half_at b 0) 2 half_within (length bs / 2) i bs (half_bytes v) h (omega arith) refl (omega arith)
    ∙ ap (set (blocks (λ (b : List ℕ). half_at b 0) 2 (length bs / 2) bs) i) (half_bytes_lem v)

-- past the end
pub halves_none : (bs : List ℕ) (i : ℕ) → length bs / 2 ≤ i → get_or (halves_in bs) i 0 ≡ 0
halves_none bs i h = get_or-eq_default (halves_in bs) 0 (omega (arith, length_halves bs))

pub halves_kept : (bs : List ℕ) (i v : ℕ) → length bs / 2 ≤ i → halves_in bs ≡ set (halves_in bs) i v
halves_kept bs i v h = sym (set_out (halves_in bs) i v (omega (arith, length_halves bs)))

pub half_small : (bs : List ℕ) (i : ℕ) → get_or (halves_in bs) i 0 < 65536
half_small bs i = by_test (ltb i (length bs / 2)) refl
  where
    by_test : (b : Bool) → ltb i (length bs / 2) ≡ b → get_or (halves_in bs) i 0 < 65536
    by_test true e = rw (halves_at bs i (ltb-true i (length bs / 2) e)) (omega arith)
    by_test false e = rw (halves_none bs i (ltb-false i (length bs / 2) e)) (omega arith)
