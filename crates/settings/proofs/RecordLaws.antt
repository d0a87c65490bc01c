-- Records of cells: where each is read, what a store of one changes, and a test that each must pass.
use mathlib.Core.Path.{◌≡◌, refl, ap, sym, ◌∙◌}
use mathlib.Core.Bool.{Bool, true, false}
use mathlib.Core.List.{List, [], ◌∷◌, ◌++◌}
use Prim.Native.Nat.{ℕ, suc, ◌+◌, ◌-◌, ◌*◌, ◌/◌, ◌≤◌, ◌<◌}
use native.Mathlib.Numerals.{add-one}
use native.Mathlib.Omega.{arith}
use lib.ListN.{length, get_or, set, take, drop, length-drop, drop_of_length-le}
use lib.Seq.{drop-cons, drop-drop, drop-set-add, take_at, take_all, sets, length-sets}
use Rattle.memory.specs.Blocks.{blocks}
use Rattle.memory.proofs.BlockLaws.{length-blocks, blocks_at, blocks_sets}
use Rattle.settings.specs.Records.{records_of, every}

pub length-records : (w : ℕ) (ws : List ℕ) → length (records_of w ws) ≡ length ws / w
unfolding records_of
length-records w ws = length-blocks (take w) w (length ws / w) ws

pub record_at : (w : ℕ) (ws : List ℕ) (i : ℕ) (d : List ℕ) → i < length ws / w → get_or (records_of w ws) i d ≡ take w (drop (w * i) ws)
unfolding records_of
record_at w ws i d h = blocks_at (take w) w (length ws / w) i ws d h

-- ---- the cells of a record

cell_next : (ws : List ℕ) (n p q : ℕ) → p < length ws → q ≡ p + 1 → take (suc n) (drop p ws) ≡ get_or ws p 0 ∷ take n (drop q ws)
cell_next ws n p q h e =
    ap (take (suc n)) (drop-cons ws p 0 h) ∙ ap (λ (i : ℕ). get_or ws p 0 ∷ take n (drop i ws)) (sym (e ∙ add-one p))

pub two_cells : (ws : List ℕ) (p q : ℕ) → p + 2 ≤ length ws → q ≡ p + 1 → take 2 (drop p ws) ≡ get_or ws p 0 ∷ get_or ws q 0 ∷ []
two_cells ws p q h e =
    cell_next ws 1 p q (omega arith) e ∙ ap (λ (l : List ℕ). get_or ws p 0 ∷ l) (cell_next ws 0 q (q + 1) (omega arith) refl)

pub four_cells : (ws : List ℕ) (p : ℕ) → p + 4 ≤ length ws
    → take 4 (drop p ws) ≡ get_or ws p 0 ∷ get_or ws (p + 1) 0 ∷ get_or ws (p + 2) 0 ∷ get_or ws (p + 3) 0 ∷ []
four_cells ws p h =
    cell_next ws 3 p (p + 1) (omega arith) refl
    ∙ ap (λ (l : List ℕ). get_or ws p 0 ∷ l) (cell_next ws 2 (p + 1) (p + 2) (omega arith) (omega arith))
    ∙ ap (λ (l : List ℕ). get_or ws p 0 ∷ get_or ws (p + 1) 0 ∷ l) (two_cells ws (p + 2) (p + 3) (omega arith) (omega arith))

-- ---- records of two cells after the first cell

two_within : (a b : List ℕ) → length a ≡ 2 → take 2 (a ++ b) ≡ take 2 a
two_within a b h = take_at a b 2 h ∙ sym (take_all 2 a (omega arith))

pub pair_at : (ws : List ℕ) (i : ℕ) (d : List ℕ) → i < (length ws - 1) / 2
    → get_or (records_of 2 (drop 1 ws)) i d ≡ get_or ws (1 + 2 * i) 0 ∷ get_or ws (2 + 2 * i) 0 ∷ []
pair_at ws i d h =
    record_at 2 (drop 1 ws) i d (omega (arith, length-drop 1 ws))
    ∙ ap (take 2) (drop-drop (2 * i) 1 ws)
    ∙ two_cells ws (1 + 2 * i) (2 + 2 * i) (omega arith) (omega arith)

pub pair_put : (ws : List ℕ) (i a b : ℕ) → i < (length ws - 1) / 2
    → records_of 2 (drop 1 (set (set ws (1 + 2 * i) a) (2 + 2 * i) b)) ≡ set (records_of 2 (drop 1 ws)) i (a ∷ b ∷ [])
unfolding records_of
pair_put ws i a b h =
    let l = drop 1 ws in
    let long = length-drop 1 ws in
    let second : 2 + 2 * i ≡ 1 + suc (2 * i) = omega arith in
    let stored : drop 1 (set (set ws (1 + 2 * i) a) (2 + 2 * i) b) ≡ sets l (2 * i) (a ∷ b ∷ []) =
    ap (λ (j : ℕ). drop 1 (set (set ws (1 + 2 * i) a) j b)) second
    ∙ drop-set-add 1 (set ws (1 + 2 * i) a) (suc (2 * i)) b
    ∙ ap (λ (r : List ℕ). set r (suc (2 * i)) b) (drop-set-add 1 ws (2 * i) a)
    in
    ap (records_of 2) stored
    ∙ ap (λ (n : ℕ). blocks (take 2) 2 (n / 2) (sets l (2 * i) (a ∷ b ∷ []))) (length-sets l (2 * i) (a ∷ b ∷ []))
    ∙ blocks_sets (take 2) 2 two_within (length l / 2) i l (a ∷ b ∷ []) (omega arith) (omega arith) refl (omega arith)

-- ---- a test of each: i are done

module _ {A : Type 0} (p : A → Bool) (l : List A) (i : ℕ) where
  pub every_yes : (d : A) → i < length l → p (get_or l i d) ≡ true → every p (drop i l) ≡ every p (drop (i + 1) l)
  unfolding every
  every_yes d h e = rw (drop-cons l i d h, e, add-one)

  pub every_no : (d : A) → i < length l → p (get_or l i d) ≡ false → every p (drop i l) ≡ false
  unfolding every
  every_no d h e = rw (drop-cons l i d h, e)

  pub every_end : length l ≤ i → every p (drop i l) ≡ true
  unfolding every
  every_end h = ap (every p) (drop_of_length-le l {i = i} h)
