-- `capi::looks::wz_state` meets its contract.
use mathlib.Core.Path.{ap, sym, ◌∙◌}
use Rattle.engine.specs.declared.Engine.{Engine}
use Rattle.capi.specs.Memory.{not_an_engine, worker_in}
use Rattle.shown.specs.Looks.{no_state, state_of}
use Rattle.capi.specs.Looks.{state_look}
use Rattle.capi.proofs.Laws.{alien_size, own_size}
use Rattle.capi.proofs.LookLaws.{alien, own}
use Rattle.capi.proofs.looks.wz_state.Goals as goal

pub returns-in-Err : goal.returns-in-Err
unfolding state_look
returns-in-Err c =
    let mem = c.args.mem.now in
    let alone = alien_size _ _ _ c.size_check.ensures c.in-Err.is in
    c.no_state.ensures ∙ ap no_state (c.number.ensures ∙ alone.1) ∙ sym (alien mem (state_of (worker_in mem).head.link) (no_state not_an_engine) alone.0)

pub returns : goal.returns
unfolding state_look
returns c =
    let mem = c.args.mem.now in
    c.state_of.ensures
    ∙ ap (λ (e : Engine). state_of e.link) c.head_of.ensures
    ∙ sym (own mem (state_of (worker_in mem).head.link) (no_state not_an_engine) (own_size _ _ _ c.size_check.ensures c.in_default.is))
