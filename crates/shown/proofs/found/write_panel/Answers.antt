-- `shown::found::write_panel` meets its contract.
use mathlib.Core.Path.{◌≡◌, ap, ap₂, ◌∙◌}
use Rattle.table.specs.Table.{table_in}
use Rattle.tags.specs.Lists.{list_in}
use Rattle.panel.specs.Panel.{panel_of, written, written_length}
use Rattle.board.specs.Board.{board_in}
use Rattle.board.proofs.BoardLaws.{tags_read, order-read}
use Rattle.shown.proofs.found.write_panel.Goals as goal

pub returns : goal.returns
returns c =
    let a = c.args in
    let bs = a.board.now in
    let out = a.out.now in
    let t = c.table_of in
    let o = c.order_of in
    let put = c.write_panel in
    let same : panel_of (table_in t.result.now) (list_in o.result.now) ≡ panel_of (board_in bs).table.tags (board_in bs).table.order =
    ap₂ panel_of (tags_read bs t.result.now t.ensures) (order-read bs o.result.now o.ensures)
    in
    record { value = put.ensures.value ∙ ap (written_length out) same; out_after = put.ensures.out_after ∙ ap (written out) same }
