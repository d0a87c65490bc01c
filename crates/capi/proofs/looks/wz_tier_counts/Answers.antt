-- `capi::looks::wz_tier_counts` meets its contract.
use mathlib.Core.Path.{ap, sym, ◌∙◌}
use Rattle.capi.specs.Memory.{not_an_engine, worker_in}
use Rattle.shown.specs.Looks.{counts_of, no_counts}
use Rattle.capi.specs.Looks.{counts_look}
use Rattle.capi.proofs.Laws.{alien_size, own_size}
use Rattle.capi.proofs.LookLaws.{alien, own}
use Rattle.capi.proofs.looks.wz_tier_counts.Goals as goal

pub returns-in-Err : goal.returns-in-Err
unfolding counts_look
returns-in-Err c =
    let mem = c.args.mem.now in
    let alone = alien_size _ _ _ c.size_check.ensures c.in-Err.is in
    c.no_counts.ensures ∙ ap no_counts (c.number.ensures ∙ alone.1) ∙ sym (alien mem (counts_of (worker_in mem).board) (no_counts not_an_engine) alone.0)

pub returns : goal.returns
unfolding counts_look worker_in
returns c =
    let mem = c.args.mem.now in
    let found = rw c.board_of.ensures.1 at c.counts_of.ensures in
    found ∙ sym (own mem (counts_of (worker_in mem).board) (no_counts not_an_engine) (own_size _ _ _ c.size_check.ensures c.in_default.is))
