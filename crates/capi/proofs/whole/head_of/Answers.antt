-- `capi::whole::head_of` meets its contract.
use Rattle.capi.specs.Memory.{worker_in}
use Rattle.capi.proofs.Laws.{engine_room}
use borrow.Author.Rules.{rules}
use Rattle.capi.proofs.whole.head_of.Goals as goal

pub slice_bounds-load-count : goal.slice_bounds-load-count
slice_bounds-load-count c = search (rules, engine_room c.args.mem.now c.requires)

pub slice_bounds-load-start : goal.slice_bounds-load-start
slice_bounds-load-start c = search (rules, engine_room c.args.mem.now c.requires)

pub slice_bounds-load-end : goal.slice_bounds-load-end
slice_bounds-load-end c = search (rules, engine_room c.args.mem.now c.requires)

pub returns : goal.returns
unfolding worker_in
returns c = c.load.ensures
