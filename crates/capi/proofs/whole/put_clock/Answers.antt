-- `capi::whole::put_clock` meets its contract.
use borrow.Author.Rules.{rules}
use Rattle.capi.specs.Memory.{worker_in}
use Rattle.capi.proofs.Laws.{head_put, engine_room}
use Rattle.capi.proofs.whole.put_clock.Goals as goal

pub slice_bounds-put_clock-count : goal.slice_bounds-put_clock-count
slice_bounds-put_clock-count c = search (rules, engine_room c.args.mem.now c.requires)

pub slice_bounds-put_clock-start : goal.slice_bounds-put_clock-start
slice_bounds-put_clock-start c = search (rules, engine_room c.args.mem.now c.requires)

pub slice_bounds-put_clock-end : goal.slice_bounds-put_clock-end
slice_bounds-put_clock-end c = search (rules, engine_room c.args.mem.now c.requires)

pub returns : goal.returns
unfolding worker_in
returns c =
    let f = c.put_clock in
    head_put c.args.mem.now f.new.s _ c.requires f.auto.s f.ensures
