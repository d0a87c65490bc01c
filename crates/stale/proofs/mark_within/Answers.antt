-- `stale::mark_within` meets its contract.
use mathlib.Core.Path.{◌≡◌, ap, ◌∙◌}
use mathlib.Core.List.{List}
use Prim.Native.Nat.{ℕ}
use Rattle.tags.specs.Lists.{list_in, room, fitted}
use Rattle.table.specs.declared.tag.Tag.{Tag}
use Rattle.board.specs.Board.{board_in, tag_at}
use Rattle.board.proofs.BoardLaws.{tags_read}
use Rattle.stale.specs.Stale.{is_staled, staled_tags, staled_in}
use Rattle.readings.proofs.ChangeLaws.{told, all_fit}
use Rattle.stale.proofs.mark_within.Goals as goal

pub returns : goal.returns
unfolding staled_in
returns c =
    let a = c.args in
    let bs = a.b.now in
    let B = board_in bs in
    let t = c.table_of in
    let list = c.list_staled in
    let stale = c.stale_table in
    let tell = c.tell_changes in
    let staled : list_in list.new.changes ≡ staled_tags B.table.tags =
    list.ensures
    ∙ ap (λ (ts : List Tag). fitted (room a.changes.now) (staled_tags ts)) (tags_read bs t.result.now t.ensures)
    ∙ all_fit bs c.requires.board (room a.changes.now) c.requires.max_names_bound (λ (k : ℕ). is_staled (tag_at B.table k)) in
    told (staled_in B) stale.new.b (list_in list.new.changes) a.out.now tell.new.out tell.result stale.ensures staled tell.ensures.value tell.ensures.out_after
