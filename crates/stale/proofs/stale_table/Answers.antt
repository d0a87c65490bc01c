-- `stale::stale_table` meets its contract.
use mathlib.Core.List.{List, map}
use Rattle.table.specs.declared.tag.Tag.{Tag}
use Rattle.board.proofs.BoardLaws.{tags_put}
use Rattle.stale.specs.Stale.{tag_stale}
use Rattle.stale.proofs.stale_table.Goals as goal

pub returns : goal.returns
returns c =
    let from = c.table_start-start in
    let to = c.order_start-end in
    let put = c.stale_all in
    tags_put c.args.b.now put.new.table c.requires from.result to.result from.ensures to.ensures (λ (ts : List Tag). map tag_stale ts) put.auto.table put.ensures
