-- `capi::whole::set_tier` meets its contract.
use borrow.Author.Rules.{rules}
use mathlib.Core.Path.{ap, ◌∙◌}
use Rattle.board.specs.Board.{Board}
use Rattle.replies.specs.Worker.{worker}
use Rattle.capi.specs.Memory.{worker_in}
use Rattle.capi.proofs.Laws.{board_put, engine_room, engine_board}
use Rattle.capi.proofs.whole.set_tier.Goals as goal

pub slice_bounds-set_tier-count : goal.slice_bounds-set_tier-count
slice_bounds-set_tier-count c = search (rules, engine_room c.args.mem.now c.requires)

pub slice_bounds-set_tier-start : goal.slice_bounds-set_tier-start
slice_bounds-set_tier-start c = search (rules, engine_room c.args.mem.now c.requires)

pub slice_bounds-set_tier-end : goal.slice_bounds-set_tier-end
slice_bounds-set_tier-end c = search (rules, engine_room c.args.mem.now c.requires)

pub set_tier-requires : goal.set_tier-requires
set_tier-requires c = engine_board c.args.mem.now c.requires

pub returns : goal.returns
unfolding worker_in
returns c =
    let f = c.set_tier in
    let bs = c.args.mem.now in
    board_put bs f.new.b c.requires f.auto.b ∙ ap (λ (B : Board). worker (worker_in bs).head B) f.ensures.board
