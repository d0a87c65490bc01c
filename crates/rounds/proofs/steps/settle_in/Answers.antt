-- `rounds::steps::settle_in` meets its contract.
use mathlib.Core.List.{List, map}
use Rattle.table.specs.declared.tag.Tag.{Tag}
use Rattle.rounds.specs.Added.{settled}
use Rattle.board.proofs.BoardLaws.{tags_put}
use Rattle.rounds.proofs.steps.settle_in.Goals as goal

pub returns : goal.returns
returns c =
    let from = c.table_start-start in
    let to = c.order_start-end in
    let put = c.settle in
    tags_put c.args.b.now put.new.t c.requires from.result to.result from.ensures to.ensures (λ (ts : List Tag). map settled ts) put.auto.t put.ensures
