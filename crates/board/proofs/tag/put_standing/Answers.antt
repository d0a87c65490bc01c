-- `board::tag::put_standing` meets its contract.
use Rattle.table.specs.declared.tag.Tag.{Tag}
use Rattle.table.specs.Table.{with_standing}
use Rattle.board.proofs.BoardLaws.{tag_put}
use Rattle.board.proofs.tag.put_standing.Goals as goal

pub returns : goal.returns
returns c =
    let a = c.args in
    let from = c.table_start-start in
    let to = c.order_start-end in
    let put = c.put_standing in
    tag_put a.b.now put.new.t c.requires from.result to.result from.ensures to.ensures a.k (λ (x : Tag). with_standing x a.tier a.g a.added a.wants) put.auto.t put.ensures
