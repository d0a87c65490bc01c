-- What looks answer, by the room of a lent list.
use mathlib.Core.Bool.{false, cond}
use mathlib.Core.List.{List, ◌++◌}
use mathlib.Core.Path.{◌≡◌, refl, sym, ◌∙◌}
use Prim.Native.Nat.{ℕ, ◌/◌, ◌≤◌, ◌<◌}
use native.Mathlib.Omega.{arith}
use borrow.Author.Tests.{lt-ltb, le-ltb, le-leb}
use lib.Dec.{eqb}
use lib.ListN.{length, drop}
use Rattle.panel.specs.Panel.{panel_room, written}
use Rattle.panel.proofs.WriteLaws.{length_panel, full_length}
use Rattle.lent.specs.Lent.{cell_bytes, over_bytes, records, wrote_all}
use Rattle.lent.proofs.LentLaws.{cells_fit, length-records}
use Rattle.statistics.specs.Stats.{facts, groups_of}
use Rattle.statistics.proofs.StatLaws.{told_few}
use Rattle.board.specs.Layout.{table, order, configured, groups, recorded, parts_in}
use Rattle.board.specs.Board.{Board, board_from, board_in}
use Rattle.shown.specs.Looks.{listed, short_of, group_cells, group_count, panel_bytes, panel_count, facts_of, row_cells}
use Rattle.shown.specs.declared.list_looks.ListLook.{ListLook}

-- ---- what statistics go by, part by part of the board

pub facts-read : (bs t o f g r : List ℕ) → t ≡ parts_in bs table → o ≡ parts_in bs order → f ≡ parts_in bs configured → g ≡ parts_in bs groups → r ≡ parts_in bs recorded
    → facts t o f g r ≡ facts_of (board_in bs)
unfolding board_in board_from
facts-read bs t o f g r e1 e2 e3 e4 e5 = rw (e1, e2, e3, e4, e5) refl

-- ---- check 43

pub short : (places asked : ℕ) → places < asked → short_of places asked ≡ 43
short places asked h = rw (lt-ltb places asked h) refl

pub enough : (places asked : ℕ) → asked ≤ places → short_of places asked ≡ 0
enough places asked h = rw (le-ltb places asked h) refl

-- ---- a lent list, and how many it has

pub refused : (k code n : ℕ) (out done : List ℕ) (r : ListLook) → eqb k 0 ≡ false → code ≡ k → r ≡ listed k 0 → (r ≡ listed code n) × (out ≡ cond (eqb code 0) done out)
refused k code n out done r nonzero e s = (s ∙ rw (e, nonzero) refl, rw (e, nonzero) refl)

pub given : (code n : ℕ) (out new done : List ℕ) (r : ListLook) → code ≡ 0 → r ≡ listed 0 n → new ≡ done → (r ≡ listed code n) × (new ≡ cond (eqb code 0) done out)
given code n out new done r e s t = (s ∙ rw e refl, t ∙ rw e refl)

-- ---- an engine's own lists fit: where it has at most n of them, and the room is that of n, they are told whole

pub groups-told : (B : Board) (out : List ℕ) (n : ℕ) → length (groups_of (facts_of B)) ≤ n → n ≤ length out / 40
    → (group_count B out ≡ length (groups_of (facts_of B))) × (wrote_all out (cell_bytes (group_cells B)) ≡ over_bytes out (cell_bytes (group_cells B)))
groups-told B out n few h = told_few (facts_of B) out n few (omega arith)

pub table-told : (B : Board) (out : List ℕ) (n : ℕ) → length B.table.order ≤ n → n ≤ length out / 16
    → wrote_all out (cell_bytes (records (row_cells B) B.table.order)) ≡ over_bytes out (cell_bytes (records (row_cells B) B.table.order))
table-told B out n few h =
    cells_fit out (records (row_cells B) B.table.order) (omega (arith, length-records (row_cells B) 2 (λ k. refl) B.table.order))

pub panel_told : (B : Board) (out : List ℕ) (n : ℕ) → length B.table.order ≤ n → panel_room n ≤ length out
    → (panel_count B out ≡ length (panel_bytes B)) × (written out (panel_bytes B) ≡ panel_bytes B ++ drop (length (panel_bytes B)) out)
unfolding written
panel_told B out n few h =
    let long : length (panel_bytes B) ≡ panel_room (length B.table.order) = length_panel B.table.tags B.table.order in
    let fits : length (panel_bytes B) ≤ length out = omega (arith, long) in
    (sym (full_length out (panel_bytes B) fits), rw (le-leb (length (panel_bytes B)) (length out) fits) refl)
