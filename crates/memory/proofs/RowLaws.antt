-- Rows of 32 cells.
use mathlib.Core.Path.{◌≡◌, refl, ap, sym, ◌∙◌}
use mathlib.Core.Bool.{Bool, true, false}
use mathlib.Core.List.{List, [], ◌∷◌, ◌++◌, append_assoc, map}
use Prim.Native.Nat.{ℕ, zero, suc, ◌+◌, ◌*◌, ◌/◌, ◌≤◌, ◌<◌}
use native.Mathlib.Omega.{arith}
use borrow.Author.Tests.{ltb-true, ltb-false}
use lib.Dec.{ltb}
use lib.ListN.{length, get_or, set, take, drop, length-drop, length-set, replicate, take-append-drop, get_or-eq_default, get_or-map}
use lib.Seq.{paste, take_at, take_all, get_or-take, get_or-drop, drop-drop, length-take-le, set_out, set-get_or, set-append_left, take-set-le, drop-set-add}
use Rattle.memory.specs.Blocks.{blocks}
use Rattle.memory.specs.Cells.{cells_in, rows_in, no_row}
use Rattle.memory.proofs.BlockLaws.{length-blocks, blocks_at, blocks_put}
use Rattle.memory.proofs.CellLaws.{length_cells}

row_within : (a b : List ℕ) → length a ≡ 32 → take 32 (a ++ b) ≡ take 32 a
row_within a b h = take_at a b 32 h ∙ sym (take_all 32 a (omega arith))

pub length_rows : (bs : List ℕ) → length (rows_in bs) ≡ length bs / 256
unfolding rows_in
length_rows bs = length-blocks (take 32) 32 (length bs / 256) (cells_in bs)

pub rows_at : (bs : List ℕ) (k : ℕ) → k < length bs / 256 → get_or (rows_in bs) k no_row ≡ take 32 (drop (32 * k) (cells_in bs))
unfolding rows_in
rows_at bs k h = blocks_at (take 32) 32 (length bs / 256) k (cells_in bs) no_row h

pub rows_none : (bs : List ℕ) (k : ℕ) → length bs / 256 ≤ k → get_or (rows_in bs) k no_row ≡ no_row
rows_none bs k h = get_or-eq_default (rows_in bs) no_row (omega (arith, length_rows bs))

pub rows_kept : (bs w : List ℕ) (k : ℕ) → length bs / 256 ≤ k → rows_in bs ≡ set (rows_in bs) k w
rows_kept bs w k h = sym (set_out (rows_in bs) k w (omega (arith, length_rows bs)))

row_places : (bs : List ℕ) (k : ℕ) → k < length bs / 256 → length (take 32 (drop (32 * k) (cells_in bs))) ≡ 32
row_places bs k h = length-take-le 32 (drop (32 * k) (cells_in bs)) (omega (arith, length-drop (32 * k) (cells_in bs), length_cells bs))

-- row k of the cells is replaced
pub rows_put : (old new w : List ℕ) (k : ℕ) → length new ≡ length old → k < length old / 256 → length w ≡ 32
    → cells_in new ≡ paste (cells_in old) (32 * k) w 32 → rows_in new ≡ set (rows_in old) k w
unfolding rows_in
rows_put old new w k same h long e =
    let ws = cells_in old in
    let whole = take_all 32 w (omega arith) in
    ap (λ (n : ℕ). blocks (take 32) 32 (n / 256) (cells_in new)) same
    ∙ ap (blocks (take 32) 32 (length old / 256))
    (e
    ∙ append_assoc (take (32 * k) ws) (take 32 w) (drop (32 * k + 32) ws)
    ∙ ap (λ (r : List ℕ). take (32 * k) ws ++ (r ++ drop (32 * k + 32) ws)) whole)
    ∙ blocks_put (take 32) 32 row_within (length old / 256) k ws w h (omega (arith, length_cells old)) long
    ∙ ap (set (blocks (take 32) 32 (length old / 256) ws) k) whole

-- a place within a part of a list
set-part : (l : List ℕ) (p w j v : ℕ) → j < w → p + w ≤ length l → set l (p + j) v ≡ paste l p (set (take w (drop p l)) j v) w
set-part l p w j v h m =
    let rest = drop p l in
    let part : length (take w rest) ≡ w = length-take-le w rest (omega (arith, length-drop p l)) in
    let inside : set rest j v ≡ set (take w rest) j v ++ drop w rest =
    ap (λ (r : List ℕ). set r j v) (sym (take-append-drop w rest)) ∙ set-append_left (take w rest) (drop w rest) j v (omega arith)
    in
    sym (take-append-drop p (set l (p + j) v))
    ∙ ap (λ (r : List ℕ). r ++ drop p (set l (p + j) v)) (take-set-le p l (p + j) v (omega arith))
    ∙ ap (λ (r : List ℕ). take p l ++ r) (drop-set-add p l j v ∙ inside ∙ ap (λ (r : List ℕ). set (take w rest) j v ++ r) (drop-drop w p l))
    ∙ sym (append_assoc (take p l) (set (take w rest) j v) (drop (p + w) l))
    ∙ ap (λ (r : List ℕ). take p l ++ r ++ drop (p + w) l) (sym (take_all w (set (take w rest) j v) (omega (arith, length-set (take w rest) j v))))

pub row_long : (bs : List ℕ) (k : ℕ) → length (get_or (rows_in bs) k no_row) ≡ 32
row_long bs k = by_test (ltb k (length bs / 256)) refl
  where
    by_test : (b : Bool) → ltb k (length bs / 256) ≡ b → length (get_or (rows_in bs) k no_row) ≡ 32
    by_test true e = let h = ltb-true k (length bs / 256) e in ap length (rows_at bs k h) ∙ row_places bs k h
    by_test false e = ap length (rows_none bs k (ltb-false k (length bs / 256) e))

-- one cell of a row
pub row_cell_at : (bs : List ℕ) (k j : ℕ) → k < length bs / 256 → j < 32 → get_or (get_or (rows_in bs) k no_row) j 0 ≡ get_or (cells_in bs) (32 * k + j) 0
row_cell_at bs k j h m =
    ap (λ (r : List ℕ). get_or r j 0) (rows_at bs k h)
    ∙ get_or-take 32 (drop (32 * k) (cells_in bs)) j 0 m
    ∙ get_or-drop (32 * k) (cells_in bs) j 0

zeros : (n j : ℕ) → ◌≡◌ {A = ℕ} (get_or (replicate n 0) j 0) 0
zeros zero j = refl
zeros (suc n) zero = refl
zeros (suc n) (suc j) = zeros n j

-- past the last row, and past the row's end
pub row_none_cell : (bs : List ℕ) (k j : ℕ) → length bs / 256 ≤ k → get_or (get_or (rows_in bs) k no_row) j 0 ≡ 0
row_none_cell bs k j h = ap (λ (r : List ℕ). get_or r j 0) (rows_none bs k h) ∙ zeros 32 j

pub row_cell_none : (bs : List ℕ) (k j : ℕ) → 32 ≤ j → get_or (get_or (rows_in bs) k no_row) j 0 ≡ 0
row_cell_none bs k j h = get_or-eq_default (get_or (rows_in bs) k no_row) 0 (omega (arith, row_long bs k))

pub row_cell_kept : (bs : List ℕ) (k j v : ℕ) → 32 ≤ j → rows_in bs ≡ set (rows_in bs) k (set (get_or (rows_in bs) k no_row) j v)
row_cell_kept bs k j v h =
    sym (set-get_or (rows_in bs) k no_row)
    ∙ ap (set (rows_in bs) k) (sym (set_out (get_or (rows_in bs) k no_row) j v (omega (arith, row_long bs k))))

pub row_cell_put : (old new : List ℕ) (k j v : ℕ) → length new ≡ length old → k < length old / 256 → j < 32
    → cells_in new ≡ set (cells_in old) (32 * k + j) v → rows_in new ≡ set (rows_in old) k (set (get_or (rows_in old) k no_row) j v)
row_cell_put old new k j v same h m e =
    let w = take 32 (drop (32 * k) (cells_in old)) in
    rows_put old new (set w j v) k same h (length-set w j v ∙ row_places old k h)
    (e ∙ set-part (cells_in old) (32 * k) 32 j v m (omega (arith, length_cells old)))
    ∙ ap (λ (r : List ℕ). set (rows_in old) k (set r j v)) (sym (rows_at old k h))

-- ---- rows as a decoder f reads them

module _ {ℓ κ} {A : Type ℓ} {B : Type κ} (f : A → B) where
  pub map_at : (l : List A) (k : ℕ) (d : A) → get_or (map f l) k (f d) ≡ f (get_or l k d)
  map_at l k d = get_or-map f l k d

  pub map-set : (l : List A) (k : ℕ) (w : A) → map f (set l k w) ≡ set (map f l) k (f w)
  map-set [] k w = refl
  map-set (x ∷ l) zero w = refl
  map-set (x ∷ l) (suc k) w = ap (λ (r : List B). f x ∷ r) (map-set l k w)

-- ---- a row, written out

-- a list by its first n elements: what a definition reads of them computes
unfoldable pub spread : ℕ → List ℕ → List ℕ
spread zero w = []
spread (suc n) w = get_or w 0 0 ∷ spread n (drop 1 w)

pub spread_is : (n : ℕ) (w : List ℕ) → length w ≡ n → spread n w ≡ w
unfolding spread
spread_is zero [] h = refl
spread_is zero (x ∷ w) h = absurd (let z : ◌≡◌ {A = ℕ} 0 1 = cc in omega arith)
spread_is (suc n) [] h = absurd (let z : ◌≡◌ {A = ℕ} 0 1 = cc in omega arith)
spread_is (suc n) (x ∷ w) h = ap (λ (r : List ℕ). x ∷ r) (spread_is n w (omega arith))
