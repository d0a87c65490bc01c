-- Looks are never cut: an engine has no more groups and tags than the places that a look asks for.
use mathlib.Core.Path.{◌≡◌, refl}
use mathlib.Core.List.{List, [], ◌∷◌, ◌++◌, map}
use Prim.Native.Nat.{ℕ, ◌*◌, ◌/◌, ◌%◌, ◌≤◌, ◌<◌}
use native.Mathlib.Nat.{mod-eq_of_lt}
use native.Mathlib.Omega.{arith}
use lib.ListN.{length, drop, length-append, length-map}
use borrow.Author.Tests.{le-ltb, le-leb}
use Rattle.lists.specs.Keep.{Below}
use Rattle.lists.proofs.KeepLaws.{below-append, below_more}
use Rattle.lists.proofs.CountLaws.{length_few}
use Rattle.names.specs.Directory.{max_names, names_of}
use Rattle.tiers.proofs.ListedLaws.{order_below}
use Rattle.rounds.proofs.OnceLaws.{order_once}
use Rattle.heads.specs.declared.options.Options.{Options}
use Rattle.panel.specs.Panel.{tier_in, panel_room, panel_of, written, written_length}
use Rattle.lent.specs.Lent.{cell_bytes, over_bytes, records}
use Rattle.lent.proofs.LentLaws.{length_bytes, length-records, all_fits}
use Rattle.statistics.specs.Stats.{stat_cells, groups_told}
use Rattle.statistics.proofs.NumberLaws.{firsts_few}
use Rattle.settings.specs.Settings.{max_groups}
use Rattle.shown.specs.Looks.{facts_of, row_cells}
use Rattle.replies.specs.Worker.{Worker}
use Rattle.capi.specs.Looks.{group_cells, panel_bytes}
use Rattle.turns.specs.Calls.{Call, tier, load, steps, write, stop, look, look_state, look_stats, look_counts, look_groups, look_table, look_panel, look_tag, answer}
use Rattle.turns.specs.Demand.{moment}
use Rattle.uncut.specs.Looks.{all, groups_in, order_in, rows_in, panel_in, WholeLook, LooksWhole}
use Rattle.turns.proofs.SoundLaws.{Sound}
use Rattle.turns.proofs.CallLaws.{names_few}
use Rattle.uncut.proofs.FitLaws.{numbers_of, Fits}
use Rattle.uncut.proofs.UncutLaws.{each_fit}

-- numbers below 256 are bytes
bytes_same : (l : List ℕ) → Below 256 l → map (λ (k : ℕ). k % 256) l ≡ l
bytes_same [] b = refl
bytes_same (k ∷ l) b = rw (mod-eq_of_lt b.0, bytes_same l b.1)

module _ (o : Options) (ns : List (List ℕ)) (rows : ℕ) (within : rows ≤ max_names) (W : Worker) (s : Sound o ns W) (f : Fits rows W.board) where
  -- ---- groups

  groups_few : length (groups_in W) ≤ 16
  groups_few =
      let B = W.board in
      firsts_few max_groups _ (below-append max_groups (numbers_of B.configured) B.groups.recorded f.named f.groups_fit.numbers.below)

  groups-told : (out : List ℕ) → 16 ≤ length out / 40 → answer (look (look_groups out)) W ≡ all (length (groups_in W)) (over_bytes out (cell_bytes (group_cells W)))
  unfolding answer groups_told
  groups-told out h =
      let long : length (group_cells W) ≡ 5 * length (groups_in W) = length-records (stat_cells (facts_of W.board)) 5 (λ k. refl) (groups_in W) in
      let room : length (cell_bytes (group_cells W)) ≤ length out = omega (arith, length_bytes (group_cells W), long, groups_few) in
      rw (le-ltb (length out / 40) 16 h, le-leb (length (cell_bytes (group_cells W))) (length out) room, all_fits out (cell_bytes (group_cells W)) room)

  -- ---- the table

  order_few : length (order_in W) ≤ rows_in W
  order_few =
      let T = W.board.table in
      length_few (length T.tags) T.order (order_below T s.listed) (order_once T s.listed)

  rows_few : rows_in W ≤ max_names
  rows_few = omega (arith, within, f.table_fits.long)

  table-told : (out : List ℕ) → max_names ≤ length out / 16 → answer (look (look_table out)) W ≡ all (length (order_in W)) (over_bytes out (cell_bytes (records (row_cells W.board) (order_in W))))
  unfolding answer
  table-told out h =
      let cells = records (row_cells W.board) (order_in W) in
      let long : length cells ≡ 2 * length (order_in W) = length-records (row_cells W.board) 2 (λ k. refl) (order_in W) in
      rw (
        le-ltb (length out / 16) max_names h,
        le-ltb (length out / 16) (length (order_in W)) (omega (arith, h, order_few, rows_few)),
        all_fits out (cell_bytes cells) (omega (arith, h, length_bytes cells, long, order_few, rows_few)),
      )

  -- ---- the panel list

  order_bytes : Below 256 (order_in W)
  order_bytes =
      let T = W.board.table in
      below_more (length T.tags) 256 T.order (omega (arith, rows_few)) (order_below T s.listed)

  panel_bytes_lem : panel_bytes W ≡ panel_in W
  unfolding panel_of
  panel_bytes_lem =
      let h : length (order_in W) < 256 = omega (arith, order_few, rows_few) in
      rw (bytes_same (order_in W) order_bytes, mod-eq_of_lt h)

  panel_few : length (panel_in W) ≤ panel_room (rows_in W)
  panel_few =
      let tiers = map (tier_in W.board.table.tags) (order_in W) in
      omega (arith, length-append (order_in W) tiers, length-map (order_in W) (tier_in W.board.table.tags), order_few)

  panel_told : (out : List ℕ) → panel_room max_names ≤ length out → answer (look (look_panel out)) W ≡ all (length (panel_in W)) (panel_in W ++ drop (length (panel_in W)) out)
  unfolding answer written written_length
  panel_told out h = rw (panel_bytes_lem, le-ltb (length out) (panel_room max_names) h, le-leb (length (panel_in W)) (length out) (omega (arith, h, panel_few, rows_few)))

  whole_look : (c : Call) → WholeLook (moment c W)
  unfolding WholeLook
  whole_look (tier clock tag to) = tt
  whole_look (load clock list) = tt
  whole_look (steps clock wall kind number message list out) = tt
  whole_look (write tag kind word) = tt
  whole_look stop = tt
  whole_look (look look_state) = tt
  whole_look (look look_stats) = tt
  whole_look (look look_counts) = tt
  whole_look (look (look_groups out)) = (groups_few, groups-told out)
  whole_look (look (look_table out)) = (order_few, rows_few, table-told out)
  whole_look (look (look_panel out)) = (panel_few, rows_few, panel_told out)
  whole_look (look (look_tag tag)) = tt

-- Every look of every list of calls.
pub looks_whole : LooksWhole
unfolding LooksWhole
looks_whole s e cs = each_fit s e WholeLook (λ c W v f. whole_look s.options (names_of s.names s.ends) (length s.ends) (names_few s e) W v f c) cs
