-- `capi::whole::push_write` meets its contract.
use borrow.Author.Rules.{rules}
use mathlib.Core.Path.{ap, ◌∙◌}
use Rattle.board.specs.Board.{Board}
use Rattle.replies.specs.Worker.{worker}
use Rattle.capi.specs.Memory.{worker_in}
use Rattle.capi.proofs.Laws.{board_put, engine_room, engine_board}
use Rattle.capi.proofs.whole.push_write.Goals as goal

pub slice_bounds-push_write-count : goal.slice_bounds-push_write-count
slice_bounds-push_write-count c = search (rules, engine_room c.args.mem.now c.requires)

pub slice_bounds-push_write-start : goal.slice_bounds-push_write-start
slice_bounds-push_write-start c = search (rules, engine_room c.args.mem.now c.requires)

pub slice_bounds-push_write-end : goal.slice_bounds-push_write-end
slice_bounds-push_write-end c = search (rules, engine_room c.args.mem.now c.requires)

pub push_write-requires : goal.push_write-requires
push_write-requires c = engine_board c.args.mem.now c.requires

pub returns : goal.returns
unfolding worker_in
returns c =
    let f = c.push_write in
    let bs = c.args.mem.now in
    board_put bs f.new.b c.requires f.auto.b ∙ ap (λ (B : Board). worker (worker_in bs).head B) f.ensures.board
