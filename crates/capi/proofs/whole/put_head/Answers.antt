-- `capi::whole::put_head` meets its contract.
use borrow.Author.Rules.{rules}
use Rattle.capi.specs.Memory.{worker_in}
use Rattle.capi.proofs.Laws.{head_put, engine_room}
use Rattle.capi.proofs.whole.put_head.Goals as goal

pub slice_bounds-store-count : goal.slice_bounds-store-count
slice_bounds-store-count c = search (rules, engine_room c.args.mem.now c.requires)

pub slice_bounds-store-start : goal.slice_bounds-store-start
slice_bounds-store-start c = search (rules, engine_room c.args.mem.now c.requires)

pub slice_bounds-store-end : goal.slice_bounds-store-end
slice_bounds-store-end c = search (rules, engine_room c.args.mem.now c.requires)

pub returns : goal.returns
unfolding worker_in
returns c =
    let f = c.store in
    head_put c.args.mem.now f.new.s c.args.e c.requires f.auto.s f.ensures
