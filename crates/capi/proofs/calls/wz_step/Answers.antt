-- `capi::calls::wz_step` meets its contract.
use mathlib.Core.Path.{◌≡◌, ap, subst, ◌∙◌}
use mathlib.Core.List.{List}
use Prim.Native.Nat.{ℕ}
use lib.ListN.{length}
use lib.Ieee.{Float}
use lib.IntN.{ℤ}
use mir.Facts.{to_z-of_z}
use mir.Syntax.{w64}
use mir.Val.{SFits, to_z, of_z}
use Rattle.std.specs.Prelude.{Result}
use Rattle.refusals.specs.declared.Refusal.{Refusal}
use Rattle.replies.specs.Worker.{Worker, at, worker}
use Rattle.replies.specs.declared.response.Said.{Said}
use Rattle.step_checks.specs.Awaited.{Answer}
use Rattle.step_checks.specs.declared.answer.Kind.{Kind}
use Rattle.worker.specs.Steps.{step}
use Rattle.capi.specs.Memory.{size_check, worker_in}
use Rattle.capi.specs.Calls.{answer_of, SteppedBoard}
use Rattle.capi.proofs.Laws.{alien_size, own_size}
use Rattle.capi.proofs.CallLaws.{alien_step, refused_step, done_step}
use borrow.Author.Rules.{rules}
use Rattle.capi.proofs.calls.wz_step.Goals as goal

pub returns-in-Err : goal.returns-in-Err
returns-in-Err c = alien_step _ _ _ _ _ (alien_size _ _ _ c.size_check.ensures c.in-Err.is) c.refused.ensures

pub put_head-requires : goal.put_head-requires
put_head-requires c = ap size_check c.step.auto.mem ∙ (own_size _ _ _ c.size_check.ensures c.in_default.is)

abbrev answered : Kind → List ℕ → Answer
answered kind list = record { kind = kind; list = list }

-- the wall time goes through as it is, and the kind and the answer are known
told : (W : Worker) (clock : Float) (wall : ℤ) → SFits w64 wall → (kind k : Kind) (list : List ℕ) → kind ≡ k → (a r : Result Said Refusal) → a ≡ r → (bs new out out' : List ℕ)
    → SteppedBoard W (step W (at clock (to_z w64 (of_z w64 wall))) (answered kind list) (length out)) a bs new out out'
    → SteppedBoard W (step W (at clock wall) (answered k list) (length out)) r bs new out out'
told W clock wall fit kind k list e a r is bs new out out' d =
    let f = subst (λ (z : ℤ). SteppedBoard W (step W (at clock z) (answered kind list) (length out)) a bs new out out') (to_z-of_z fit) d in
    let g = subst (λ (x : Kind). SteppedBoard W (step W (at clock wall) (answered x list) (length out)) a bs new out out') e f in
    subst (λ (x : Result Said Refusal). SteppedBoard W (step W (at clock wall) (answered k list) (length out)) x bs new out out') is g

pub returns-in-Ok : goal.returns-in-Ok
returns-in-Ok c =
    let a = c.args in
    let bs = a.mem.now in
    let out = a.out.now in
    let e = c.head_of-e in
    let f = c.step in
    let t = at a.clock a.wall in
    let W = worker e.result (worker_in bs).board in
    let x = answer_of a.kind a.number a.message a.list.now in
    let fit : SFits w64 a.wall = search rules in
    let said = told W a.clock a.wall fit _ _ a.list.now c.kind_from.ensures _ _ c.in-Ok.is bs f.new.mem out f.new.out f.ensures in
    done_step bs f.new.mem out f.new.out e.result t x (own_size _ _ _ c.size_check.ensures c.in_default.is) e.ensures
    c.in-Ok.s c.reply.result c.put_head.new.mem said c.reply.ensures c.put_head.ensures (search rules)

pub returns-in-Err-step : goal.returns-in-Err-step
returns-in-Err-step c =
    let a = c.args in
    let bs = a.mem.now in
    let out = a.out.now in
    let e = c.head_of-e in
    let f = c.step in
    let t = at a.clock a.wall in
    let W = worker e.result (worker_in bs).board in
    let x = answer_of a.kind a.number a.message a.list.now in
    let fit : SFits w64 a.wall = search rules in
    let said = told W a.clock a.wall fit _ _ a.list.now c.kind_from.ensures _ _ c.in-Err-step.is bs f.new.mem out f.new.out f.ensures in
    refused_step bs f.new.mem out f.new.out e.result t x (own_size _ _ _ c.size_check.ensures c.in_default.is) e.ensures
    c.in-Err-step.refusal c.refused-in-Err-step.result said c.refused-in-Err-step.ensures
