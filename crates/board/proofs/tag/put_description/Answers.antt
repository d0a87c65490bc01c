-- `board::tag::put_description` meets its contract.
use Rattle.table.specs.declared.tag.Tag.{Tag}
use Rattle.table.specs.Table.{with_description}
use Rattle.board.proofs.BoardLaws.{tag_put}
use Rattle.board.proofs.tag.put_description.Goals as goal

pub returns : goal.returns
returns c =
    let a = c.args in
    let from = c.table_start-start in
    let to = c.order_start-end in
    let put = c.put_description in
    tag_put a.b.now put.new.t c.requires from.result to.result from.ensures to.ensures a.k (λ (x : Tag). with_description x a.d) put.auto.t put.ensures
