-- `capi::whole::create` meets its contract.
use mathlib.Core.Path.{ap, ◌∙◌}
use Rattle.replies.specs.Worker.{Worker}
use Rattle.capi.specs.Memory.{size_check, IsEngine, worker_in}
use Rattle.capi.proofs.Laws.{engine_room, engine_board, size-right, size_tags, board_put}
use borrow.Author.Rules.{rules}
use Rattle.capi.proofs.whole.create.Goals as goal

pub slice_bounds-create-count : goal.slice_bounds-create-count
slice_bounds-create-count c =
    let own : IsEngine c.args.mem.now = ap size_check c.requires.mem_len ∙ size-right _ c.requires.in_bounds c.requires.ends_len_bound in
    search (rules, engine_room c.args.mem.now own)

pub slice_bounds-create-start : goal.slice_bounds-create-start
slice_bounds-create-start c =
    let own : IsEngine c.args.mem.now = ap size_check c.requires.mem_len ∙ size-right _ c.requires.in_bounds c.requires.ends_len_bound in
    search (rules, engine_room c.args.mem.now own)

pub slice_bounds-create-end : goal.slice_bounds-create-end
slice_bounds-create-end c =
    let own : IsEngine c.args.mem.now = ap size_check c.requires.mem_len ∙ size-right _ c.requires.in_bounds c.requires.ends_len_bound in
    search (rules, engine_room c.args.mem.now own)

pub create-requires : goal.create-requires
create-requires c =
    let own : IsEngine c.args.mem.now = ap size_check c.requires.mem_len ∙ size-right _ c.requires.in_bounds c.requires.ends_len_bound in
    record { board = engine_board c.args.mem.now own; b_value = size_tags c.args.mem.now _ c.requires.mem_len }

pub returns : goal.returns
unfolding worker_in
returns c =
    let f = c.create in
    let own : IsEngine c.args.mem.now = ap size_check c.requires.mem_len ∙ size-right _ c.requires.in_bounds c.requires.ends_len_bound in
    ap (λ (W : Worker). W.board) (board_put c.args.mem.now f.new.b own f.auto.b) ∙ f.ensures.board
