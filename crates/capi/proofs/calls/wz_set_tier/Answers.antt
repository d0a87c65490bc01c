-- `capi::calls::wz_set_tier` meets its contract.
use Rattle.checks.proofs.Laws.{tier_passed}
use Rattle.std.specs.Prelude.{⊤, Result}
use Rattle.refusals.specs.Refusals.{code}
use Rattle.refusals.specs.declared.Refusal.{Refusal}
use Rattle.capi.proofs.Laws.{alien_size, own_size}
use Rattle.capi.proofs.CallLaws.{alien_call, refused_call, done_call}
use Rattle.checks.specs.Calls.{tier_check}
use Rattle.capi.specs.Memory.{size_check, worker_in}
use Rattle.replies.specs.Worker.{Worker, worker}
use Rattle.board.specs.Board.{with_table}
use Rattle.engine.specs.declared.Engine.{Engine}
use Rattle.engine.specs.Engine.{with_clock}
use Rattle.tiers.specs.Tiers.{set_tier}
use mathlib.Core.Path.{ap, sym, ◌∙◌}
use borrow.Author.Rules.{rules}
use Rattle.capi.proofs.calls.wz_set_tier.Goals as goal

pub returns-in-Err : goal.returns-in-Err
returns-in-Err c = alien_call _ _ _ _ _ (alien_size _ _ _ c.size_check.ensures c.in-Err.is) c.number.ensures

pub returns-in-Err-tier_check : goal.returns-in-Err-tier_check
returns-in-Err-tier_check c =
    let a = c.args in
    let bs = a.mem.now in
    refused_call bs _ _ _ _ (own_size _ _ _ c.size_check.ensures c.in_default.is)
    (ap (λ (x : Result ⊤ Refusal). code x) (sym c.in-Err-tier_check.is) ∙ c.tier_check.ensures (worker_in bs).board ∙ ap (λ (x : Engine). tier_check (worker x (worker_in bs).board) a.clock a.tag a.tier) c.head_of-e.ensures)
    c.number-in-Err-tier_check.ensures

pub overflow_cast-tag : goal.overflow_cast-tag
overflow_cast-tag c =
    let a = c.args in
    let e = c.head_of-e in
    let p = tier_passed (worker e.result (worker_in a.mem.now).board) a.clock a.tag a.tier (sym (c.tier_check.ensures _) ∙ ap (λ (x : Result ⊤ Refusal). code x) c.in_default-tier_check.is) in
    search (rules, p.0)

pub overflow_cast-tier : goal.overflow_cast-tier
overflow_cast-tier c =
    let a = c.args in
    let e = c.head_of-e in
    let p = tier_passed (worker e.result (worker_in a.mem.now).board) a.clock a.tag a.tier (sym (c.tier_check.ensures _) ∙ ap (λ (x : Result ⊤ Refusal). code x) c.in_default-tier_check.is) in
    search (rules, p.1)

pub put_clock-requires : goal.put_clock-requires
put_clock-requires c = ap size_check c.set_tier.auto.mem ∙ (own_size _ _ _ c.size_check.ensures c.in_default.is)

pub returns : goal.returns
returns c =
    let a = c.args in
    let bs = a.mem.now in
    let e = c.head_of-e in
    let clocked : Worker → Worker = λ w. worker (with_clock w.head a.clock) w.board in
    done_call bs _ _ _ (own_size _ _ _ c.size_check.ensures c.in_default.is)
    (ap (λ (x : Result ⊤ Refusal). code x) (sym c.in_default-tier_check.is) ∙ c.tier_check.ensures (worker_in bs).board ∙ ap (λ (x : Engine). tier_check (worker x (worker_in bs).board) a.clock a.tag a.tier) e.ensures)
    (c.put_clock.ensures
    ∙ ap clocked c.set_tier.ensures
    ∙ ap (λ (x : Engine). worker (with_clock (worker_in bs).head a.clock) (with_table (worker_in bs).board (set_tier (worker_in bs).board.table a.tag a.tier x.options.grace a.clock))) e.ensures)
    (search rules)
