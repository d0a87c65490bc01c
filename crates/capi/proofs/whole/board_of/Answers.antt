-- `capi::whole::board_of` meets its contract.
use mathlib.Core.Path.{refl}
use Rattle.capi.proofs.Laws.{engine_room, engine_board}
use borrow.Author.Rules.{rules}
use Rattle.capi.proofs.whole.board_of.Goals as goal

pub slice_bounds-result-count : goal.slice_bounds-result-count
slice_bounds-result-count c = search (rules, engine_room c.args.mem.now c.requires)

pub slice_bounds-result-start : goal.slice_bounds-result-start
slice_bounds-result-start c = search (rules, engine_room c.args.mem.now c.requires)

pub slice_bounds-result-end : goal.slice_bounds-result-end
slice_bounds-result-end c = search (rules, engine_room c.args.mem.now c.requires)

pub returns : goal.returns
returns c = (engine_board c.args.mem.now c.requires, refl)
