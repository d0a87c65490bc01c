-- `descriptions::use_up` meets its contract.
use mathlib.Core.List.{List, map}
use Rattle.table.specs.declared.tag.Tag.{Tag}
use Rattle.board.proofs.BoardLaws.{tags_put}
use Rattle.descriptions.specs.Descriptions.{unwanted}
use Rattle.descriptions.proofs.use_up.Goals as goal

pub returns : goal.returns
returns c =
    let from = c.table_start-start in
    let to = c.order_start-end in
    let put = c.use_up_in in
    tags_put c.args.b.now put.new.t c.requires from.result to.result from.ensures to.ensures (λ (ts : List Tag). map unwanted ts) put.auto.t put.ensures
