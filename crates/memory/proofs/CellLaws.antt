-- Cells of eight bytes.
use mathlib.Core.Path.{◌≡◌, refl, ap, sym, ◌∙◌}
use mathlib.Core.List.{List, ◌++◌}
use Prim.Native.Nat.{ℕ, ◌+◌, ◌*◌, ◌/◌, ◌%◌, ◌≤◌, ◌<◌, ◌^◌}
use native.Mathlib.Nat.{div-div-eq-div-mul, div-add-mod', add_assoc, add-zero, mod-mod}
use native.Mathlib.Omega.{arith}
use lib.ListN.{length, get_or, set, drop, get_or-append, get_or-eq_default}
use lib.Seq.{sets, length-sets, get_or-drop, set_out}
use Rattle.memory.specs.Cells.{bytes_of, quad_at, word_at, words, cells_in}
use Rattle.memory.proofs.BlockLaws.{length-blocks, blocks_at, blocks_sets}

-- eight digits, plain numbers
eight : (v q1 q2 q3 q4 q5 q6 q7 r0 r1 r2 r3 r4 r5 r6 r7 : ℕ)
    → v ≡ q1 * 256 + r0 → q1 ≡ q2 * 256 + r1 → q2 ≡ q3 * 256 + r2 → q3 ≡ q4 * 256 + r3
    → q4 ≡ q5 * 256 + r4 → q5 ≡ q6 * 256 + r5 → q6 ≡ q7 * 256 + r6 → q7 ≡ r7
    → (r0 + r1 * 0x100 + r2 * 0x1_0000 + r3 * 0x100_0000) + (r4 + r5 * 0x100 + r6 * 0x1_0000 + r7 * 0x100_0000) * 0x1_0000_0000 ≡ v
eight v q1 q2 q3 q4 q5 q6 q7 r0 r1 r2 r3 r4 r5 r6 r7 a b c d e f g h = omega arith

digit : (v k : ℕ) → v / k ≡ v / (k * 256) * 256 + v / k % 256 % 256
digit v k = rw (mod-mod (v / k) 256, ← div-div-eq-div-mul v k 256) (sym (div-add-mod' (v / k) 256))

-- a word's bytes give the word back
word_bytes : (v : ℕ) → v < 2 ^ 64 → word_at (bytes_of v) 0 ≡ v
word_bytes v h =
    eight v (v / 0x100) (v / 0x1_0000) (v / 0x100_0000) (v / 0x1_0000_0000) (v / 0x100_0000_0000) (v / 0x1_0000_0000_0000) (v / 0x100_0000_0000_0000)
    _ _ _ _ _ _ _ _ (omega arith)
    (digit v 0x100) (digit v 0x1_0000) (digit v 0x100_0000) (digit v 0x1_0000_0000) (digit v 0x100_0000_0000) (digit v 0x1_0000_0000_0000)
    (omega arith)

-- eight bytes and no further
word_within : (a b : List ℕ) → length a ≡ 8 → word_at (a ++ b) 0 ≡ word_at a 0
word_within a b h =
    simp (
      get_or-append a b 0 0 (omega arith),
      get_or-append a b 0 1 (omega arith),
      get_or-append a b 0 2 (omega arith),
      get_or-append a b 0 3 (omega arith),
      get_or-append a b 0 4 (omega arith),
      get_or-append a b 0 5 (omega arith),
      get_or-append a b 0 6 (omega arith),
      get_or-append a b 0 7 (omega arith),
    )

word_drop : (bs : List ℕ) (k : ℕ) → word_at (drop k bs) 0 ≡ word_at bs k
word_drop bs k = simp (get_or-drop, add-zero)

pub word_quads : (bs : List ℕ) (at : ℕ) → quad_at bs at + quad_at bs (at + 4) * 0x1_0000_0000 ≡ word_at bs at
word_quads bs at = rw (add_assoc at 4 1, add_assoc at 4 2, add_assoc at 4 3) refl

pub length_cells : (bs : List ℕ) → length (cells_in bs) ≡ length bs / 8
unfolding cells_in
length_cells bs = length-blocks (λ (b : List ℕ). word_at b 0) 8 (length bs / 8) bs

pub cells_at : (bs : List ℕ) (i : ℕ) → i < length bs / 8 → get_or (cells_in bs) i 0 ≡ word_at bs (8 * i)
unfolding cells_in
cells_at bs i h = blocks_at (λ (b : List ℕ). word_at b 0) 8 (length bs / 8) i bs 0 h ∙ word_drop bs (8 * i)

pub cells_put : (bs : List ℕ) (i v : ℕ) → v < 2 ^ 64 → i < length bs / 8 → cells_in (sets bs (8 * i) (bytes_of v)) ≡ set (cells_in bs) i v
unfolding cells_in
cells_put bs i v small h =
    ap (λ (n : ℕ). words (n / 8) (sets bs (8 * i) (bytes_of v))) (length-sets bs (8 * i) (bytes_of v))
    ∙ blocks_sets (λ (b : List ℕ). word_at b 0) 8 word_within (length bs / 8) i bs (bytes_of v) h (omega arith) refl (omega arith)
    ∙ ap (set (words (length bs / 8) bs) i) (word_bytes v small)

-- past the end
pub cells_none : (bs : List ℕ) (i : ℕ) → length bs / 8 ≤ i → get_or (cells_in bs) i 0 ≡ 0
cells_none bs i h = get_or-eq_default (cells_in bs) 0 (omega (arith, length_cells bs))

pub cells_kept : (bs : List ℕ) (i v : ℕ) → length bs / 8 ≤ i → cells_in bs ≡ set (cells_in bs) i v
cells_kept bs i v h = sym (set_out (cells_in bs) i v (omega (arith, length_cells bs)))
