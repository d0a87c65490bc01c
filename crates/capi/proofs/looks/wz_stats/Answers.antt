-- `capi::looks::wz_stats` meets its contract.
use mathlib.Core.Path.{ap, sym, ◌∙◌}
use Rattle.engine.specs.declared.Engine.{Engine}
use Rattle.capi.specs.Memory.{not_an_engine, worker_in}
use Rattle.shown.specs.Looks.{no_stats, stats_of}
use Rattle.capi.specs.Looks.{stats_look}
use Rattle.capi.proofs.Laws.{alien_size, own_size}
use Rattle.capi.proofs.LookLaws.{alien, own}
use Rattle.capi.proofs.looks.wz_stats.Goals as goal

pub returns-in-Err : goal.returns-in-Err
unfolding stats_look
returns-in-Err c =
    let mem = c.args.mem.now in
    let alone = alien_size _ _ _ c.size_check.ensures c.in-Err.is in
    c.no_stats.ensures ∙ ap no_stats (c.number.ensures ∙ alone.1) ∙ sym (alien mem (stats_of (worker_in mem).head.stats) (no_stats not_an_engine) alone.0)

pub returns : goal.returns
unfolding stats_look
returns c =
    let mem = c.args.mem.now in
    c.stats_of.ensures
    ∙ ap (λ (e : Engine). stats_of e.stats) c.head_of.ensures
    ∙ sym (own mem (stats_of (worker_in mem).head.stats) (no_stats not_an_engine) (own_size _ _ _ c.size_check.ensures c.in_default.is))
