-- The groups in cells, eight for each, and the parts of what memory holds.
use mathlib.Core.Path.{◌≡◌, refl, ap, sym, ◌∙◌}
use mathlib.Core.List.{List, [], ◌∷◌, ◌++◌, append_assoc}
use Prim.Native.Nat.{ℕ, suc, ◌+◌, ◌*◌, ◌/◌, ◌%◌, ◌≤◌, ◌<◌}
use native.Mathlib.Nat.{mod-eq_of_lt}
use native.Mathlib.Omega.{arith}
use lib.ListN.{length, get_or, set, take, drop, length-drop, take-append-drop, get_or-append, get_or-eq_default}
use lib.Seq.{sets, sets-eq, drop-drop, get_or-drop, length-take-le, set_out, set-get_or, get_or-set_other}
use Rattle.memory.specs.Blocks.{blocks}
use Rattle.memory.specs.Cells.{cells_in}
use Rattle.memory.proofs.BlockLaws.{length-blocks, blocks_at, blocks_put}
use Rattle.memory.proofs.CellLaws.{length_cells}
use Rattle.words.specs.Time.{time_from}
use Rattle.groups.specs.Groups.{fresh_group, group_from, groups_in, with_rate}
use Rattle.groups.specs.declared.group.Group.{Group}

pub length-groups : (bs : List ℕ) → length (groups_in bs) ≡ length bs / 64
unfolding groups_in
length-groups bs = length-blocks group_from 8 (length bs / 64) (cells_in bs)

-- ---- a group read

five : (cs : List ℕ) (k : ℕ) → group_from (drop k cs) ≡ group_from (get_or cs k 0 ∷ get_or cs (k + 1) 0 ∷ get_or cs (k + 2) 0 ∷ get_or cs (k + 3) 0 ∷ get_or cs (k + 4) 0 ∷ [])
unfolding group_from
five cs k =
    let first : get_or (drop k cs) 0 0 ≡ get_or cs k 0 = get_or-drop k cs 0 0 ∙ ap (λ (n : ℕ). get_or cs n 0) (omega arith) in
    rw (first, get_or-drop k cs 1 0, get_or-drop k cs 2 0, get_or-drop k cs 3 0, get_or-drop k cs 4 0)

pub group_read : (bs : List ℕ) (g : ℕ) → g < length bs / 64
    → get_or (groups_in bs) g fresh_group ≡ group_from (get_or (cells_in bs) (8 * g) 0 ∷ get_or (cells_in bs) (8 * g + 1) 0 ∷ get_or (cells_in bs) (8 * g + 2) 0 ∷ get_or (cells_in bs) (8 * g + 3) 0 ∷ get_or (cells_in bs) (8 * g + 4) 0 ∷ [])
unfolding groups_in
group_read bs g h = blocks_at group_from 8 (length bs / 64) g (cells_in bs) fresh_group h ∙ five (cells_in bs) (8 * g)

pub group_none : (bs : List ℕ) (g : ℕ) → length bs / 64 ≤ g → get_or (groups_in bs) g fresh_group ≡ fresh_group
group_none bs g h = get_or-eq_default (groups_in bs) fresh_group (omega (arith, length-groups bs))

-- ---- a group stored

group_within : (a b : List ℕ) → length a ≡ 8 → group_from (a ++ b) ≡ group_from a
unfolding group_from
group_within a b h =
    simp (
      get_or-append a b 0 0 (omega arith),
      get_or-append a b 0 1 (omega arith),
      get_or-append a b 0 2 (omega arith),
      get_or-append a b 0 3 (omega arith),
      get_or-append a b 0 4 (omega arith),
    )

-- five cells stored one after the other from k on: those of eight, with the three behind them as they were
stored : (cs : List ℕ) (k a b c d e : ℕ) → k + 8 ≤ length cs
    → set (set (set (set (set cs k a) (k + 1) b) (k + 2) c) (k + 3) d) (k + 4) e
    ≡ take k cs ++ ((a ∷ b ∷ c ∷ d ∷ e ∷ take 3 (drop (k + 5) cs)) ++ drop (k + 8) cs)
stored cs k a b c d e h =
    let v = a ∷ b ∷ c ∷ d ∷ e ∷ [] in
    let at1 : k + 1 ≡ suc k = omega arith in
    let at2 : k + 2 ≡ suc (suc k) = omega arith in
    let at3 : k + 3 ≡ suc (suc (suc k)) = omega arith in
    let at4 : k + 4 ≡ suc (suc (suc (suc k))) = omega arith in
    let one : set (set (set (set (set cs k a) (k + 1) b) (k + 2) c) (k + 3) d) (k + 4) e ≡ sets cs k v = rw (at1, at2, at3, at4) refl in
    let eight : k + 5 + 3 ≡ k + 8 = omega arith in
    let behind : drop (k + 5) cs ≡ take 3 (drop (k + 5) cs) ++ drop (k + 8) cs =
    sym (take-append-drop 3 (drop (k + 5) cs)) ∙ ap (λ (r : List ℕ). take 3 (drop (k + 5) cs) ++ r) (drop-drop 3 (k + 5) cs ∙ ap (λ (n : ℕ). drop n cs) eight)
    in
    one ∙ sets-eq v cs k (omega arith) ∙ append_assoc (take k cs) v (drop (k + 5) cs) ∙ ap (λ (r : List ℕ). take k cs ++ (v ++ r)) behind

pub group_put : (old new : List ℕ) (g a b c d e : ℕ) → length new ≡ length old → g < length old / 64
    → cells_in new ≡ set (set (set (set (set (cells_in old) (8 * g) a) (8 * g + 1) b) (8 * g + 2) c) (8 * g + 3) d) (8 * g + 4) e
    → groups_in new ≡ set (groups_in old) g (group_from (a ∷ b ∷ c ∷ d ∷ e ∷ []))
unfolding groups_in group_from
group_put old new g a b c d e same h f =
    let cs = cells_in old in
    let long = length_cells old in
    let spare : length (take 3 (drop (8 * g + 5) cs)) ≡ 3 = length-take-le 3 (drop (8 * g + 5) cs) (omega (arith, length-drop (8 * g + 5) cs)) in
    ap (λ (n : ℕ). blocks group_from 8 (n / 64) (cells_in new)) same
    ∙ ap (blocks group_from 8 (length old / 64)) (f ∙ stored cs (8 * g) a b c d e (omega arith))
    ∙ blocks_put group_from 8 group_within (length old / 64) g cs (a ∷ b ∷ c ∷ d ∷ e ∷ take 3 (drop (8 * g + 5) cs)) h (omega arith) (ap (λ (n : ℕ). suc (suc (suc (suc (suc n))))) spare)

-- the rate alone stored: the other four cells are as they were
pub rate_put : (old new : List ℕ) (g rate : ℕ) → length new ≡ length old → g < length old / 64 → rate < 0x1_0000_0000
    → cells_in new ≡ set (cells_in old) (8 * g + 2) rate
    → groups_in new ≡ set (groups_in old) g (with_rate (get_or (groups_in old) g fresh_group) rate)
unfolding group_from
rate_put old new g rate same h small f =
    let cs = cells_in old in
    let at : ℕ → ℕ = λ (i : ℕ). get_or cs (8 * g + i) 0 in
    let ds = set cs (8 * g + 2) rate in
    let fore : set (set (set cs (8 * g) (get_or cs (8 * g) 0)) (8 * g + 1) (at 1)) (8 * g + 2) rate ≡ ds = rw (set-get_or cs (8 * g) 0, set-get_or cs (8 * g + 1) 0) in
    let three : set ds (8 * g + 3) (at 3) ≡ ds =
    ap (set ds (8 * g + 3)) (sym (get_or-set_other cs (8 * g + 2) (8 * g + 3) rate 0 (omega arith))) ∙ set-get_or ds (8 * g + 3) 0
    in
    let four : set ds (8 * g + 4) (at 4) ≡ ds =
    ap (set ds (8 * g + 4)) (sym (get_or-set_other cs (8 * g + 2) (8 * g + 4) rate 0 (omega arith))) ∙ set-get_or ds (8 * g + 4) 0
    in
    let all : cells_in new ≡ set (set (set (set (set cs (8 * g) (get_or cs (8 * g) 0)) (8 * g + 1) (at 1)) (8 * g + 2) rate) (8 * g + 3) (at 3)) (8 * g + 4) (at 4)
    = f ∙ sym (rw (fore, three, four)) in
    group_put old new g (get_or cs (8 * g) 0) (at 1) rate (at 3) (at 4) same h all
    ∙ ap (set (groups_in old) g) (rw (group_read old g h, mod-eq_of_lt small))

pub group_kept : (bs : List ℕ) (g : ℕ) (x : Group) → length bs / 64 ≤ g → groups_in bs ≡ set (groups_in bs) g x
group_kept bs g x h = sym (set_out (groups_in bs) g x (omega (arith, length-groups bs)))

-- cells that hold a group's parts hold the group
pub group_coded : (x : Group) (read again rate last before : ℕ)
    → rate % 0x1_0000_0000 ≡ x.rate → time_from read last ≡ x.last → time_from again before ≡ x.before
    → group_from (read ∷ again ∷ rate ∷ last ∷ before ∷ []) ≡ x
unfolding group_from
group_coded x read again rate last before a b c = rw (a, b, c)
