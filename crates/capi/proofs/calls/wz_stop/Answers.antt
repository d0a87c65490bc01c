-- `capi::calls::wz_stop` meets its contract.
use Rattle.capi.proofs.Laws.{alien_size, own_size}
use Rattle.capi.proofs.CallLaws.{alien_call, done_call}
use Rattle.capi.specs.Memory.{worker_in}
use Rattle.replies.specs.Worker.{worker}
use Rattle.heads.specs.declared.link.Link.{Link}
use Rattle.heads.specs.Link.{stopped}
use Rattle.engine.specs.declared.Engine.{Engine}
use Rattle.engine.specs.Engine.{with_link}
use mathlib.Core.Path.{refl, ap, ◌∙◌}
use borrow.Author.Rules.{rules}
use Rattle.capi.proofs.calls.wz_stop.Goals as goal

pub returns-in-Err : goal.returns-in-Err
returns-in-Err c = alien_call _ _ _ _ _ (alien_size _ _ _ c.size_check.ensures c.in-Err.is) c.number.ensures

pub returns : goal.returns
returns c =
    let bs = c.args.mem.now in
    let e = c.head_of-e in
    done_call bs _ 0 _ (own_size _ _ _ c.size_check.ensures c.in_default.is) refl
    (c.put_head.ensures
    ∙ ap (λ (x : Engine). worker x (worker_in bs).board)
    (c.with_link.ensures ∙ ap (λ (l : Link). with_link e.result l) c.stopped-link.ensures ∙ ap (λ (x : Engine). with_link x (stopped x.link)) e.ensures))
    (search rules)
