-- `rounds::steps::mark_due_in` meets its contract.
use mathlib.Core.List.{List}
use Rattle.tags.specs.Lists.{list_in}
use Rattle.table.specs.declared.tag.Tag.{Tag}
use Rattle.rounds.specs.Due.{marked}
use Rattle.board.proofs.BoardLaws.{tags_put}
use Rattle.rounds.proofs.steps.mark_due_in.Goals as goal

pub returns : goal.returns
returns c =
    let a = c.args in
    let from = c.table_start-start in
    let to = c.order_start-end in
    let put = c.mark_due in
    tags_put a.b.now put.new.t c.requires from.result to.result from.ensures to.ensures (λ (ts : List Tag). marked ts a.clock (list_in a.list.now)) put.auto.t put.ensures
