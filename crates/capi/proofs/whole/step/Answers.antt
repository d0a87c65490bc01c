-- `capi::whole::step` meets its contract.
use lib.ListN.{length}
use Rattle.replies.specs.Worker.{worker}
use Rattle.step_checks.specs.Awaited.{answer}
use Rattle.worker.specs.Steps.{step}
use Rattle.capi.specs.Memory.{worker_in}
use Rattle.capi.proofs.CallLaws.{step_put}
use Rattle.capi.proofs.Laws.{engine_room, engine_board}
use borrow.Author.Rules.{rules}
use Rattle.capi.proofs.whole.step.Goals as goal

pub slice_bounds-step-count : goal.slice_bounds-step-count
slice_bounds-step-count c = search (rules, engine_room c.args.mem.now c.requires)

pub slice_bounds-step-start : goal.slice_bounds-step-start
slice_bounds-step-start c = search (rules, engine_room c.args.mem.now c.requires)

pub slice_bounds-step-end : goal.slice_bounds-step-end
slice_bounds-step-end c = search (rules, engine_room c.args.mem.now c.requires)

pub step-requires : goal.step-requires
step-requires c = engine_board c.args.mem.now c.requires

pub returns : goal.returns
unfolding worker_in
returns c =
    let a = c.args in
    let f = c.step in
    let W = worker a.e (worker_in a.mem.now).board in
    step_put a.mem.now f.new.board a.out.now f.new.out W f.result (step W a.at (answer a.a) (length a.out.now)) c.requires f.auto.board f.ensures
