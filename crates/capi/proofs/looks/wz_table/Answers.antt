-- `capi::looks::wz_table` meets its contract.
use mathlib.Core.Path.{ap, ◌∙◌}
use lib.ListN.{length}
use Rattle.names.specs.Directory.{max_names}
use Rattle.lent.specs.Lent.{cell_bytes, records, wrote_all}
use Rattle.shown.specs.Looks.{row_cells}
use Prim.Native.Nat.{ℕ, ◌/◌}
use Rattle.shown.specs.Looks.{listed}
use Rattle.capi.specs.Memory.{worker_in}
use Rattle.capi.specs.Looks.{table_count}
use Rattle.capi.proofs.Laws.{alien_size, own_size}
use Rattle.capi.proofs.LookLaws.{list_alien, list_own}
use Rattle.capi.proofs.looks.wz_table.Goals as goal

pub returns-in-Err : goal.returns-in-Err
returns-in-Err c =
    let mem = c.args.mem.now in
    let out = c.args.out.now in
    let W = worker_in mem in
    let alone = alien_size _ _ _ c.size_check.ensures c.in-Err.is in
    let both = list_alien mem (length out / 16) max_names (table_count W out) out (wrote_all out (cell_bytes (records (row_cells W.board) W.board.table.order))) c.listed.result alone.0 (c.listed.ensures ∙ ap (λ (n : ℕ). listed n 0) (c.number.ensures ∙ alone.1)) in
    record { value = both.0; out_after = both.1 }

pub returns : goal.returns
unfolding worker_in
returns c =
    let mem = c.args.mem.now in
    let out = c.args.out.now in
    let W = worker_in mem in
    let call = c.table in
    let same = c.board_of.ensures.1 in
    let both = list_own mem (length out / 16) max_names (table_count W out) out call.new.out (wrote_all out (cell_bytes (records (row_cells W.board) W.board.table.order))) call.result (own_size _ _ _ c.size_check.ensures c.in_default.is) (rw same at call.ensures.value) (rw same at call.ensures.out_after) in
    record { value = both.0; out_after = both.1 }
