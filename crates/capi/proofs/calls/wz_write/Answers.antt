-- `capi::calls::wz_write` meets its contract.
use Rattle.capi.proofs.Laws.{count_small}
use native.Mathlib.Omega.{arith}
use Rattle.checks.proofs.Laws.{write_passed, write-room}
use Rattle.std.specs.Prelude.{⊤, Result}
use Rattle.refusals.specs.Refusals.{code}
use Rattle.refusals.specs.declared.Refusal.{Refusal}
use Rattle.capi.proofs.Laws.{alien_size, own_size}
use Rattle.capi.proofs.CallLaws.{alien_call, refused_call, done_call, queued_last}
use Rattle.checks.specs.Calls.{write_check}
use Rattle.capi.specs.Calls.{wrote}
use Rattle.capi.specs.Memory.{worker_in}
use Rattle.values.specs.declared.value.Value.{Value}
use mathlib.Core.Path.{ap, sym, ◌∙◌}
use borrow.Author.Rules.{rules}
use Rattle.capi.proofs.calls.wz_write.Goals as goal

pub returns-in-Err : goal.returns-in-Err
returns-in-Err c = alien_call _ _ _ _ _ (alien_size _ _ _ c.size_check.ensures c.in-Err.is) c.number.ensures

pub returns-in-Err-write_check : goal.returns-in-Err-write_check
returns-in-Err-write_check c =
    let a = c.args in
    let bs = a.mem.now in
    refused_call bs _ _ _ _ (own_size _ _ _ c.size_check.ensures c.in_default.is) (ap (λ (x : Result ⊤ Refusal). code x) (sym c.in-Err-write_check.is) ∙ c.write_check.ensures ∙ ap (λ (v : Value). write_check (worker_in bs) a.tag v) c.value_from-value.ensures) c.number-in-Err-write_check.ensures

pub overflow_cast-w : goal.overflow_cast-w
overflow_cast-w c =
    let a = c.args in
    let p = write_passed (worker_in a.mem.now) a.tag _ (sym c.write_check.ensures ∙ ap (λ (x : Result ⊤ Refusal). code x) c.in_default-write_check.is) in
    omega (arith, p, count_small a.mem.now)

pub returns : goal.returns
returns c =
    let a = c.args in
    let bs = a.mem.now in
    let v = c.value_from-value in
    let short = write-room (worker_in bs) a.tag _ (sym c.write_check.ensures ∙ ap (λ (x : Result ⊤ Refusal). code x) c.in_default-write_check.is) in
    done_call bs _ _ _ (own_size _ _ _ c.size_check.ensures c.in_default.is)
    (ap (λ (x : Result ⊤ Refusal). code x) (sym c.in_default-write_check.is) ∙ c.write_check.ensures ∙ ap (λ (x : Value). write_check (worker_in bs) a.tag x) v.ensures)
    (c.push_write.ensures ∙ queued_last (worker_in bs) _ short ∙ ap (λ (x : Value). wrote (worker_in bs) a.tag x) v.ensures)
    (search rules)
