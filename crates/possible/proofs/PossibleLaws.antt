-- Every list of calls has a history: each call has a result that its contract allows, since the code meets its contract.
use mathlib.Core.Path.{◌≡◌, refl, ap, sym, subst}
use mathlib.Core.Logic.{∥∥₁_prop, ∥∥₁_elim, ∥∥₁_map}
use mathlib.Core.List.{List, [], ◌∷◌}
use Prim.Native.Nat.{ℕ, ◌<◌, ◌^◌}
use native.Mathlib.Nat.{mul-one}
use native.Mathlib.Omega.{arith}
use lib.ListN.{length}
use mir.Syntax.{w8}
use prog.Model.{AllFit}
use denote.Builtin.{u8}
use denote.Bor.{Bor}
use denote.MutBor.{MutBor}
use denote.Slice.{Room}
use Rattle.histories.specs.Events.{Each}
use Rattle.histories.specs.Histories.{Happened}
use Rattle.lent.specs.Lent.{records}
use Rattle.shown.specs.Looks.{listed, left_in, panel_left, row_cells}
use Rattle.capi.specs.Memory.{worker_in}
use Rattle.capi.specs.Looks.{state_look, stats_look, counts_look, group_cells, group_count, group_check, table_count, table_check, panel_bytes, panel_count, panel_code, tag_look}
use Rattle.turns.specs.Calls.{Call, tier, load, steps, write, stop, look, look_state, look_stats, look_counts, look_groups, look_table, look_panel, look_tag, Answer, number_is, told, state_is, stats_are, counts_are, list_is, tag_is}
use Rattle.turns.specs.EntryContracts.{Learnt}
use Rattle.possible.specs.Typed.{Lendable, Typed, EveryList}
use Rattle.possible.proofs.PlainRuns.{tier_has, write_has, stop_has}
use Rattle.possible.proofs.LoadRuns.{load_has}
use Rattle.possible.proofs.StepRuns.{step_has}

-- a lendable list has room
has_room : (n : ℕ) → n < 2 ^ 63 → Room u8 n
has_room n h = (omega arith, subst (λ (k : ℕ). k < 2 ^ 63) (sym (mul-one n)) h)

-- any reference to these bytes, to read and to write
abbrev pub ref : List ℕ → Bor (List ℕ)
ref bs = record { ref_ptr = (0, 0); now = bs }

abbrev pub mut_ref : List ℕ → MutBor (List ℕ)
mut_ref bs = record { ref_ptr = (0, 0); ghost_name = 0; now = bs }

-- A call on this memory has an answer, and leaves a memory, that its contract allows.
abbrev Has : Call → List ℕ → Type 0
Has c old = (a : Answer) × (new : List ℕ) × Learnt c old a new × Lendable new

-- a call that answers a number and keeps the length of memory
numbered : (c : Call) (old : List ℕ) (P : ℕ → List ℕ → Type 0) → ((r : ℕ) (new : List ℕ) → P r new → Learnt c old (number_is r) new × (length new ≡ length old)) → Lendable old
    → ∥ ((r : ℕ) × (new : List ℕ) × P r new × AllFit w8 new) ∥₁ → ∥ Has c old ∥₁
numbered c old P says l h =
    ∥∥₁_map h (λ y.
    let k = says y.0 y.1 y.2 in
    (number_is y.0, y.1, k.0, (y.3, subst (λ (n : ℕ). n < 2 ^ 63) (sym k.1) l.1)))

module _ (old : List ℕ) (l : Lendable old) where
  abbrev room : Room u8 (length old)
  room = has_room (length old) l.1

  -- every call with typed arguments
  pub call_has : (c : Call) → Typed c → ∥ Has c old ∥₁
  unfolding Typed Learnt
  call_has (tier clock tag to) t =
      numbered (tier clock tag to) old _
      (λ r new p. ((r, refl, record { lifetimes = (0 ∷ [], tt); mem = mut_ref old; mem_exit = mut_ref new; mem_is = refl; mem_left = refl; met = p }), p.long)) l
      (tier_has old l.0 room clock tag to t.0 t.1 t.2)
  call_has (load clock list) t =
      numbered (load clock list) old _
      (λ r new p. ((r, refl, record { lifetimes = (0 ∷ [], (1 ∷ [], tt)); given = ref list; mem = mut_ref old; mem_exit = mut_ref new; given_is = refl; mem_is = refl; mem_left = refl; met = p }), p.long)) l
      (load_has old l.0 room clock t.0 list t.1.0 (has_room (length list) t.1.1))
  call_has (steps clock wall kind number message list out) t =
      ∥∥₁_map (step_has old l.0 room (record { clock = clock; wall = wall; kind = kind; number = number; message = message })
      (record { clock_fits = t.0; wall_fits = t.1; kind_fits = t.2; number_fits = t.3; message_fits = t.4 }) list t.5.0 (has_room (length list) t.5.1) out t.6.0 (has_room (length out) t.6.1))
      (λ y. (
        told y.0 y.2,
        y.1,
        (
          y.0,
          y.2,
          refl,
          record {
            lifetimes = (0 ∷ [], (1 ∷ [], (2 ∷ [], tt)));
            given = ref list;
            mem = mut_ref old;
            mem_exit = mut_ref y.1;
            lent = mut_ref out;
            lent_exit = mut_ref y.2;
            given_is = refl;
            mem_is = refl;
            mem_left = refl;
            lent_is = refl;
            lent_left = refl;
            met = y.3;
          },
        ),
        (y.4, subst (λ (n : ℕ). n < 2 ^ 63) (sym y.3.long) l.1),
      ))
  call_has (write tag kind word) t =
      numbered (write tag kind word) old _
      (λ r new p. ((r, refl, record { lifetimes = (0 ∷ [], tt); mem = mut_ref old; mem_exit = mut_ref new; mem_is = refl; mem_left = refl; met = p }), p.long)) l
      (write_has old l.0 room tag kind word t.0 t.1 t.2)
  call_has stop t =
      numbered stop old _ (λ r new p. ((r, refl, record { lifetimes = (0 ∷ [], tt); mem = mut_ref old; mem_exit = mut_ref new; mem_is = refl; mem_left = refl; met = p }), p.long)) l
      (stop_has old l.0 room)
  call_has (look look_state) t = ∣ (state_is (state_look old), old, (state_look old, refl, refl, record { lifetimes = (0 ∷ [], tt); mem = ref old; mem_is = refl; met = refl }), l) ∣₁
  call_has (look look_stats) t = ∣ (stats_are (stats_look old), old, (stats_look old, refl, refl, record { lifetimes = (0 ∷ [], tt); mem = ref old; mem_is = refl; met = refl }), l) ∣₁
  call_has (look look_counts) t = ∣ (counts_are (counts_look old), old, (counts_look old, refl, refl, record { lifetimes = (0 ∷ [], tt); mem = ref old; mem_is = refl; met = refl }), l) ∣₁
  call_has (look (look_groups out)) t =
      let r = listed (group_check old out) (group_count (worker_in old) out) in
      let out' = left_in (group_check old out) out (group_cells (worker_in old)) in
      ∣ (list_is r out', old, (r, out', refl, refl, record { lifetimes = (0 ∷ [], (1 ∷ [], tt)); mem = ref old; lent = mut_ref out; lent_exit = mut_ref out'; mem_is = refl; lent_is = refl; lent_left = refl; met = (refl, refl) }), l) ∣₁
  call_has (look (look_table out)) t =
      let r = listed (table_check old out) (table_count (worker_in old) out) in
      let out' = left_in (table_check old out) out (records (row_cells (worker_in old).board) (worker_in old).board.table.order) in
      ∣ (list_is r out', old, (r, out', refl, refl, record { lifetimes = (0 ∷ [], (1 ∷ [], tt)); mem = ref old; lent = mut_ref out; lent_exit = mut_ref out'; mem_is = refl; lent_is = refl; lent_left = refl; met = (refl, refl) }), l) ∣₁
  call_has (look (look_panel out)) t =
      let r = listed (panel_code old out) (panel_count (worker_in old) out) in
      let out' = panel_left (panel_code old out) out (panel_bytes (worker_in old)) in
      ∣ (list_is r out', old, (r, out', refl, refl, record { lifetimes = (0 ∷ [], (1 ∷ [], tt)); mem = ref old; lent = mut_ref out; lent_exit = mut_ref out'; mem_is = refl; lent_is = refl; lent_left = refl; met = (refl, refl) }), l) ∣₁
  call_has (look (look_tag tag)) t = ∣ (tag_is (tag_look old tag), old, (tag_look old tag, refl, refl, record { lifetimes = (0 ∷ [], tt); mem = ref old; mem_is = refl; met = refl }), l) ∣₁

-- Every list of calls has a history.
pub every_list : EveryList
unfolding EveryList Each Happened
every_list [] t mem l = ∣ ([], refl, tt) ∣₁
every_list (c ∷ cs) t mem l =
    ∥∥₁_elim (call_has mem l c t.0) ∥∥₁_prop (λ d.
    ∥∥₁_map (every_list cs t.1 d.1 d.3) (λ r.
    (record { call = c; answer = d.0; left = d.1 } ∷ r.0, ap (λ (x : List Call). c ∷ x) r.1, (λ q. d.2, r.2))))
