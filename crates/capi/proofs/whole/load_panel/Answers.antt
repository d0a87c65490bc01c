-- `capi::whole::load_panel` meets its contract.
use borrow.Author.Rules.{rules}
use mathlib.Core.Path.{ap, ◌∙◌}
use Rattle.board.specs.Board.{Board}
use Rattle.replies.specs.Worker.{worker}
use Rattle.capi.specs.Memory.{worker_in}
use Rattle.capi.proofs.Laws.{board_put, engine_room, engine_board}
use Rattle.capi.proofs.whole.load_panel.Goals as goal

pub slice_bounds-load_panel-count : goal.slice_bounds-load_panel-count
slice_bounds-load_panel-count c = search (rules, engine_room c.args.mem.now c.requires)

pub slice_bounds-load_panel-start : goal.slice_bounds-load_panel-start
slice_bounds-load_panel-start c = search (rules, engine_room c.args.mem.now c.requires)

pub slice_bounds-load_panel-end : goal.slice_bounds-load_panel-end
slice_bounds-load_panel-end c = search (rules, engine_room c.args.mem.now c.requires)

pub load_panel-requires : goal.load_panel-requires
load_panel-requires c = engine_board c.args.mem.now c.requires

pub returns : goal.returns
unfolding worker_in
returns c =
    let f = c.load_panel in
    let bs = c.args.mem.now in
    board_put bs f.new.b c.requires f.auto.b ∙ ap (λ (B : Board). worker (worker_in bs).head B) f.ensures.board
