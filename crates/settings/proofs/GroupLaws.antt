-- The configured groups in memory.
use mathlib.Core.Path.{◌≡◌, refl, ap, sym, ◌∙◌}
use mathlib.Core.Bool.{Bool, true, false}
use mathlib.Core.List.{List, [], ◌∷◌, map}
use Prim.Native.Nat.{ℕ, ◌+◌, ◌*◌, ◌/◌, ◌≤◌, ◌<◌, min}
use native.Mathlib.Nat.{zero-add}
use native.Mathlib.Omega.{arith}
use borrow.Author.Tests.{ltb-true, ltb-false}
use lib.Dec.{ltb}
use lib.ListN.{length, get_or, set, take, drop, length-map, length-take, length-drop, get_or-eq_default}
use lib.Seq.{paste, take-paste, take-nil, take_all, get_or-take}
use Rattle.memory.specs.Blocks.{blocks}
use Rattle.memory.specs.Cells.{cells_in}
use Rattle.memory.proofs.CellLaws.{length_cells}
use Rattle.memory.proofs.RowLaws.{map_at, map-set}
use Rattle.settings.specs.Records.{records_of, records_in}
use Rattle.settings.specs.Configured.{configured_from, no_group, given_groups, group_places, configured_in, group_room}
use Rattle.table.specs.declared.tag.GroupRate.{GroupRate}
use Rattle.settings.proofs.RecordLaws.{length-records, record_at, two_cells, pair_at, pair_put}

-- no cells are a group of zeros
no_cells : configured_from [] ≡ no_group
unfolding configured_from
no_cells = refl

-- ---- the groups that the host lends

pub length_pairs : (bs : List ℕ) → length (records_in 2 bs) ≡ length bs / 16
length_pairs bs = omega (arith, length-records 2 (cells_in bs), length_cells bs)

pub given_cells : (bs : List ℕ) (i : ℕ) → i < length bs / 16 → get_or (records_in 2 bs) i [] ≡ get_or (cells_in bs) (2 * i) 0 ∷ get_or (cells_in bs) (2 * i + 1) 0 ∷ []
given_cells bs i h =
    let long = length_cells bs in
    record_at 2 (cells_in bs) i [] (omega arith) ∙ two_cells (cells_in bs) (2 * i) (2 * i + 1) (omega arith) refl

pub length_given : (bs : List ℕ) → length (given_groups bs) ≡ length bs / 16
unfolding given_groups
length_given bs = length-map (records_in 2 bs) configured_from ∙ length_pairs bs

pub given_at : (bs : List ℕ) (i : ℕ) → i < length bs / 16
    → configured_from (get_or (cells_in bs) (2 * i) 0 ∷ get_or (cells_in bs) (2 * i + 1) 0 ∷ []) ≡ get_or (given_groups bs) i no_group
unfolding given_groups
given_at bs i h =
    sym
    (ap (get_or (map configured_from (records_in 2 bs)) i) (sym no_cells)
    ∙ map_at configured_from (records_in 2 bs) i []
    ∙ ap configured_from (given_cells bs i h))

-- ---- the places of those that are kept

pub length-groups : (bs : List ℕ) → length (group_places bs) ≡ group_room bs
unfolding group_places
length-groups bs =
    length-map (records_of 2 (drop 1 (cells_in bs))) configured_from
    ∙ omega (arith, length-records 2 (drop 1 (cells_in bs)), length-drop 1 (cells_in bs), length_cells bs)

group_at : (bs : List ℕ) (i : ℕ) → i < group_room bs
    → get_or (group_places bs) i no_group ≡ configured_from (get_or (cells_in bs) (1 + 2 * i) 0 ∷ get_or (cells_in bs) (2 + 2 * i) 0 ∷ [])
unfolding group_places
group_at bs i h =
    let long = length_cells bs in
    ap (get_or (map configured_from (records_of 2 (drop 1 (cells_in bs)))) i) (sym no_cells)
    ∙ map_at configured_from (records_of 2 (drop 1 (cells_in bs))) i []
    ∙ ap configured_from (pair_at (cells_in bs) i [] (omega arith))

pub group_put : (old new : List ℕ) (i a b : ℕ) → i < group_room old → cells_in new ≡ set (set (cells_in old) (1 + 2 * i) a) (2 + 2 * i) b
    → group_places new ≡ set (group_places old) i (configured_from (a ∷ b ∷ []))
unfolding group_places
group_put old new i a b h e =
    let long = length_cells old in
    ap (λ (ws : List ℕ). map configured_from (records_of 2 (drop 1 ws))) e
    ∙ ap (map configured_from) (pair_put (cells_in old) i a b (omega arith))
    ∙ map-set configured_from (records_of 2 (drop 1 (cells_in old))) i (a ∷ b ∷ [])

-- ---- the groups that are kept

pub length-kept : (bs : List ℕ) → length (configured_in bs) ≡ min (get_or (cells_in bs) 0 0) (group_room bs)
unfolding configured_in
length-kept bs = length-take (get_or (cells_in bs) 0 0) (group_places bs) ∙ ap (min (get_or (cells_in bs) 0 0)) (length-groups bs)

pub kept_at : (bs : List ℕ) (i : ℕ) → i < length (configured_in bs)
    → configured_from (get_or (cells_in bs) (1 + 2 * i) 0 ∷ get_or (cells_in bs) (2 + 2 * i) 0 ∷ []) ≡ get_or (configured_in bs) i no_group
unfolding configured_in
kept_at bs i h =
    let long = length-kept bs in
    sym (get_or-take (get_or (cells_in bs) 0 0) (group_places bs) i no_group (omega arith) ∙ group_at bs i (omega arith))

pub kept_none : (bs : List ℕ) (i : ℕ) → length (configured_in bs) ≤ i → get_or (configured_in bs) i no_group ≡ no_group
kept_none bs i h = get_or-eq_default (configured_in bs) no_group h

-- a new count: the places stay
recounted : (ws : List ℕ) (n : ℕ)
    → take (get_or (set ws 0 n) 0 0) (map configured_from (records_of 2 (drop 1 (set ws 0 n)))) ≡ take n (map configured_from (records_of 2 (drop 1 ws)))
unfolding records_of blocks
recounted [] n = sym (take-nil n)
recounted (c ∷ ps) n = refl

pub kept-counted : (old new : List ℕ) (n : ℕ) → cells_in new ≡ set (cells_in old) 0 n → configured_in new ≡ take n (group_places old)
unfolding configured_in group_places
kept-counted old new n e =
    ap (λ (ws : List ℕ). take (get_or ws 0 0) (map configured_from (records_of 2 (drop 1 ws)))) e ∙ recounted (cells_in old) n

-- places filled from a list, as many as there are of both
pub filled : (places given : List GroupRate) (n : ℕ) → n ≡ min (length given) (length places)
    → take n (paste places 0 given n) ≡ take (length places) given
filled places given n e =
    ap (λ (m : ℕ). take m (paste places 0 given n)) (sym (zero-add n))
    ∙ take-paste places 0 given n (omega arith) (omega arith)
    ∙ by_test (ltb (length given) (length places)) refl
  where
    by_test : (b : Bool) → ltb (length given) (length places) ≡ b → take n given ≡ take (length places) given
    by_test true q =
        let h = ltb-true (length given) (length places) q in
        take_all n given (omega arith) ∙ sym (take_all (length places) given (omega arith))
    by_test false q =
        let h = ltb-false (length given) (length places) q in
        let all : n ≡ length places = omega arith in
        ap (λ (m : ℕ). take m given) all
