-- `rounds::steps::tick_in` meets its contract.
use mathlib.Core.Path.{◌∙◌}
use Rattle.board.proofs.BoardLaws.{tags_read, order-read}
use Rattle.rounds.proofs.steps.tick_in.Goals as goal

pub returns : goal.returns
returns c =
    let b = c.args.b.now in
    let t = c.table_of in
    let l = c.order_of in
    c.tick_of.ensures ∙ rw (tags_read b t.result.now t.ensures, order-read b l.result.now l.ensures)
