-- What is read of a list that a step wrote: the changes, as the definition that wrote them has them.
use mathlib.Core.Path.{◌≡◌, refl, ap, sym, ◌∙◌}
use mathlib.Core.List.{List, [], ◌∷◌, ◌++◌, map, map-append}
use Prim.Native.Nat.{ℕ, zero, suc, ◌+◌, ◌*◌, ◌/◌, ◌≤◌, ◌<◌, ◌^◌, min}
use native.Mathlib.Nat.{mod-eq_of_lt, not-suc-le-zero, le_of_suc-le-suc}
use native.Mathlib.Numerals.{add-one}
use native.Mathlib.Omega.{arith}
use lib.ListN.{length, get_or, set, take, drop, length-append, get_or-append}
use lib.Seq.{take-suc, take_all, get_or-drop, length-take-le}
use Rattle.lists.specs.Keep.{Below}
use Rattle.lists.proofs.KeepLaws.{below-append}
use Rattle.memory.specs.Cells.{cells_in}
use Rattle.memory.proofs.CellLaws.{length_cells, cells_put}
use Rattle.tags.specs.Lists.{list_in}
use Rattle.tags.proofs.ListLaws.{list_below}
use Rattle.names.specs.Directory.{max_names}
use Rattle.values.specs.declared.entry.Entry.{Entry}
use Rattle.words.specs.Entry.{entry_from, held_words_of}
use Rattle.table.specs.Tag.{fresh_tag}
use Rattle.table.specs.Table.{table_in}
use Rattle.table.specs.declared.tag.Tag.{Tag}
use Rattle.lent.specs.Lent.{cell_bytes, over_bytes, wrote_all, records}
use Rattle.lent.specs.Changes.{change_cells, change_size}
use Rattle.lent.proofs.LentLaws.{wrote_none, wrote-length, put_next, cell_stored, cells_fit, length-records}
use Rattle.runs.specs.Run.{over}
use Rattle.runs.proofs.Rows.{over-next}
use Rattle.changes.specs.declared.Change.{Change}
use Rattle.changes.specs.Changes.{change_in, changes_from, told, change_of}
use Rattle.changes.proofs.TakeLaws.{change_read}
use Rattle.changes.proofs.FitLaws.{Fit, held_back, cells_small, table_fit}

below_at : (n : ℕ) (l : List ℕ) (i : ℕ) → Below n l → i < length l → get_or l i 0 < n
below_at n [] i b h = absurd (not-suc-le-zero h)
below_at n (x ∷ l) zero b h = b.0
below_at n (x ∷ l) (suc i) b h = below_at n l i b.1 (le_of_suc-le-suc h)

-- ---- the cells of a list that cells were written into

module _ (out cells : List ℕ) (small : Below (2 ^ 64) cells) (room : 8 * length cells ≤ length out) where
  wrote-first : (n : ℕ) → n ≤ length cells → cells_in (over_bytes out (cell_bytes (take n cells))) ≡ over n cells (cells_in out)
  wrote-first zero h = ap cells_in (wrote_none out)
  wrote-first (suc n) h =
      let front = take n cells in
      let v = get_or cells n 0 in
      let long : length front ≡ n = length-take-le n cells (omega arith) in
      let size : length (over_bytes out (cell_bytes front)) ≡ length out = wrote-length out front in
      let within : length front < length (over_bytes out (cell_bytes front)) / 8 = omega (arith, long, size) in
      ap (λ (l : List ℕ). cells_in (over_bytes out (cell_bytes l))) (take-suc cells n 0 h)
      ∙ ap cells_in (sym (put_next out front v (omega (arith, long))))
      ∙ ap cells_in (sym (cell_stored (over_bytes out (cell_bytes front)) (length front) v within))
      ∙ cells_put (over_bytes out (cell_bytes front)) (length front) v (below_at (2 ^ 64) cells n small h) within
      ∙ ap (λ (j : ℕ). set (cells_in (over_bytes out (cell_bytes front))) j v) long
      ∙ ap (λ (l : List ℕ). set l n v) (wrote-first n (omega arith))
      ∙ over-next n 0 cells (cells_in out) h (omega (arith, length_cells out))
      ∙ ap (λ (j : ℕ). over j cells (cells_in out)) (add-one n)

  pub wrote_cells : cells_in (wrote_all out (cell_bytes cells)) ≡ cells ++ drop (length cells) (cells_in out)
  wrote_cells =
      let whole = take_all (length cells) cells (omega arith) in
      ap cells_in (cells_fit out cells room)
      ∙ ap (λ (l : List ℕ). cells_in (over_bytes out (cell_bytes l))) (sym whole)
      ∙ wrote-first (length cells) (omega arith)
      ∙ ap (λ (l : List ℕ). l ++ drop (length cells) (cells_in out)) whole

-- ---- the changes that the cells of a run hold

module _ (tags : List Tag) where
  -- cell j of record i
  cell_of : (ks rest : List ℕ) (i j : ℕ) → i < length ks → j < 9 → get_or (records (change_cells tags) ks ++ rest) (9 * i + j) 0 ≡ get_or (change_cells tags (get_or ks i 0)) j 0
  unfolding records
  cell_of [] rest i j h l = absurd (not-suc-le-zero h)
  cell_of (k ∷ ks) rest zero j h l =
      let cells = change_cells tags k in
      let more = records (change_cells tags) ks in
      let index : 9 * 0 + j ≡ j = omega arith in
      ap (λ (m : ℕ). get_or ((cells ++ more) ++ rest) m 0) index
      ∙ get_or-append (cells ++ more) rest 0 j (omega (arith, length-append cells more))
      ∙ get_or-append cells more 0 j (omega arith)
  cell_of (k ∷ ks) rest (suc i) j h l =
      let run = records (change_cells tags) (k ∷ ks) ++ rest in
      let index : 9 * suc i + j ≡ 9 + (9 * i + j) = omega arith in
      ap (λ (m : ℕ). get_or run m 0) index ∙ sym (get_or-drop 9 run (9 * i + j) 0) ∙ cell_of ks rest i j (le_of_suc-le-suc h) l

  module _ (fit : (k : ℕ) → Fit (get_or tags k fresh_tag).published) where
    change_told : (ks rest : List ℕ) (i : ℕ) → Below 65536 ks → i < length ks → change_in (records (change_cells tags) ks ++ rest) i ≡ change_of tags (get_or ks i 0)
    change_told ks rest i below h =
        let k = get_or ks i 0 in
        let held = (get_or tags k fresh_tag).published in
        let w = held_words_of held in
        let at : (j : ℕ) → j < 9 → get_or (change_cells tags k) j 0 ≡ get_or (records (change_cells tags) ks ++ rest) (9 * i + j) 0 = λ j l. sym (cell_of ks rest i j h l) in
        let start : 9 * i + 0 ≡ 9 * i = omega arith in
        sym (change_read (records (change_cells tags) ks ++ rest) i k w.held w.kind w.word w.t w.error w.message
        (at 0 (omega arith) ∙ ap (λ (m : ℕ). get_or (records (change_cells tags) ks ++ rest) m 0) start)
        (at 1 (omega arith)) (at 2 (omega arith)) (at 3 (omega arith)) (at 4 (omega arith)) (at 5 (omega arith)) (at 6 (omega arith)))
        ∙ ap (λ (n : ℕ). record { tag = n; entry = entry_from w }) (mod-eq_of_lt (below_at 65536 ks i below h))
        ∙ ap (λ (e : Entry). record { tag = k; entry = e }) (held_back held (fit k))

    changes_told : (ks rest : List ℕ) (n : ℕ) → Below 65536 ks → n ≤ length ks → changes_from (records (change_cells tags) ks ++ rest) n ≡ map (change_of tags) (take n ks)
    unfolding changes_from
    changes_told ks rest zero below h = refl
    changes_told ks rest (suc n) below h =
        let cells = records (change_cells tags) ks ++ rest in
        let last = change_of tags (get_or ks n 0) in
        ap (λ (l : List Change). l ++ (change_in cells n ∷ [])) (changes_told ks rest n below (omega arith))
        ∙ ap (λ (c : Change). map (change_of tags) (take n ks) ++ (c ∷ [])) (change_told ks rest n below h)
        ∙ sym (ap (map (change_of tags)) (take-suc ks n 0 h) ∙ map-append (change_of tags) (take n ks) (get_or ks n 0 ∷ []))

    run_small : (ks : List ℕ) → Below 65536 ks → Below (2 ^ 64) (records (change_cells tags) ks)
    unfolding records
    run_small [] below = tt
    run_small (k ∷ ks) below =
        below-append (2 ^ 64) (change_cells tags k) (records (change_cells tags) ks)
        (omega (arith, below.0), cells_small (get_or tags k fresh_tag).published (fit k))
        (run_small ks below.1)

    -- what is read of a list into which the changes of the tags ks were written
    pub told_of : (ks out : List ℕ) → Below 65536 ks → length ks ≤ max_names → change_size * length ks ≤ length out
        → told (wrote_all out (cell_bytes (records (change_cells tags) ks))) (length ks) ≡ map (change_of tags) ks
    told_of ks out below few room =
        let cells = records (change_cells tags) ks in
        let long : length cells ≡ 9 * length ks = length-records (change_cells tags) 9 (λ k. refl) ks in
        let least : min (length ks) max_names ≡ length ks = omega arith in
        ap (changes_from (cells_in (wrote_all out (cell_bytes cells)))) least
        ∙ ap (λ (l : List ℕ). changes_from l (length ks)) (wrote_cells out cells (run_small ks below) (omega (arith, long)))
        ∙ changes_told ks (drop (length cells) (cells_in out)) (length ks) below (omega arith)
        ∙ ap (map (change_of tags)) (take_all (length ks) ks (omega arith))

-- the same of a table in memory, whatever its bytes
pub told_exact : (table ks out : List ℕ) → Below 65536 ks → length ks ≤ max_names → change_size * length ks ≤ length out
    → told (wrote_all out (cell_bytes (records (change_cells (table_in table)) ks))) (length ks) ≡ map (change_of (table_in table)) ks
told_exact table ks out below few room = told_of (table_in table) (table_fit table) ks out below few room

-- the same of a list of tags in memory, as `lent::changes::put_changes` leaves it
pub told_put : (table list out : List ℕ) → length (list_in list) ≤ max_names → change_size * length (list_in list) ≤ length out
    → told (wrote_all out (cell_bytes (records (change_cells (table_in table)) (list_in list)))) (length (list_in list)) ≡ map (change_of (table_in table)) (list_in list)
told_put table list out few room = told_exact table (list_in list) out (list_below list) few room
