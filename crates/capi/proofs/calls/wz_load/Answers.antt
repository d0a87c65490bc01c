-- `capi::calls::wz_load` meets its contract.
use Rattle.std.specs.Prelude.{⊤, Result}
use Rattle.refusals.specs.Refusals.{code}
use Rattle.refusals.specs.declared.Refusal.{Refusal}
use Rattle.capi.proofs.Laws.{alien_size, own_size}
use Rattle.capi.proofs.CallLaws.{alien_call, refused_call, done_call}
use Rattle.checks.specs.Calls.{load_check}
use Rattle.capi.specs.Memory.{size_check, worker_in}
use Rattle.replies.specs.Worker.{Worker, worker}
use Rattle.board.specs.Board.{with_table}
use Rattle.engine.specs.declared.Engine.{Engine}
use Rattle.engine.specs.Engine.{with_clock}
use Rattle.panel.specs.Panel.{loaded_list}
use mathlib.Core.Path.{ap, sym, ◌∙◌}
use borrow.Author.Rules.{rules}
use Rattle.capi.proofs.calls.wz_load.Goals as goal

pub returns-in-Err : goal.returns-in-Err
returns-in-Err c = alien_call _ _ _ _ _ (alien_size _ _ _ c.size_check.ensures c.in-Err.is) c.number.ensures

pub returns-in-Err-load_check : goal.returns-in-Err-load_check
returns-in-Err-load_check c =
    let a = c.args in
    let bs = a.mem.now in
    refused_call bs _ _ _ _ (own_size _ _ _ c.size_check.ensures c.in_default.is)
    (ap (λ (x : Result ⊤ Refusal). code x) (sym c.in-Err-load_check.is) ∙ c.load_check.ensures ∙ ap (λ (x : Engine). load_check (worker x (worker_in bs).board) a.clock a.list.now) c.head_of-e.ensures)
    c.number-in-Err-load_check.ensures

pub put_clock-requires : goal.put_clock-requires
put_clock-requires c = ap size_check c.load_panel.auto.mem ∙ (own_size _ _ _ c.size_check.ensures c.in_default.is)

pub returns : goal.returns
returns c =
    let a = c.args in
    let bs = a.mem.now in
    let e = c.head_of-e in
    let clocked : Worker → Worker = λ w. worker (with_clock w.head a.clock) w.board in
    done_call bs _ _ _ (own_size _ _ _ c.size_check.ensures c.in_default.is)
    (ap (λ (x : Result ⊤ Refusal). code x) (sym c.in_default-load_check.is) ∙ c.load_check.ensures ∙ ap (λ (x : Engine). load_check (worker x (worker_in bs).board) a.clock a.list.now) e.ensures)
    (c.put_clock.ensures
    ∙ ap clocked c.load_panel.ensures
    ∙ ap (λ (x : Engine). worker (with_clock (worker_in bs).head a.clock) (with_table (worker_in bs).board (loaded_list (worker_in bs).board.table a.list.now x.options.grace a.clock))) e.ensures)
    (search rules)
