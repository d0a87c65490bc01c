-- `capi::looks::wz_tag` meets its contract.
use mathlib.Core.Path.{ap, sym, ◌∙◌}
use Rattle.engine.specs.declared.Engine.{Engine}
use Rattle.shown.specs.Looks.{no_look, tag_found}
use Rattle.capi.specs.Memory.{not_an_engine, worker_in}
use Rattle.capi.specs.Looks.{tag_look}
use Rattle.capi.proofs.Laws.{alien_size, own_size}
use Rattle.capi.proofs.LookLaws.{alien, own}
use Rattle.capi.proofs.looks.wz_tag.Goals as goal

pub returns-in-Err : goal.returns-in-Err
unfolding tag_look
returns-in-Err c =
    let a = c.args in
    let mem = a.mem.now in
    let W = worker_in mem in
    let alone = alien_size _ _ _ c.size_check.ensures c.in-Err.is in
    c.no_look.ensures ∙ ap no_look (c.number.ensures ∙ alone.1) ∙ sym (alien mem (tag_found W.board W.head.count a.tag) (no_look not_an_engine) alone.0)

pub returns : goal.returns
unfolding tag_look worker_in
returns c =
    let a = c.args in
    let mem = a.mem.now in
    let W = worker_in mem in
    let found = rw c.board_of.ensures.1 at c.tag.ensures in
    found
    ∙ ap (λ (e : Engine). tag_found W.board e.count a.tag) c.head_of.ensures
    ∙ sym (own mem (tag_found W.board W.head.count a.tag) (no_look not_an_engine) (own_size _ _ _ c.size_check.ensures c.in_default.is))
