-- `shown::found::tier_count` meets its contract.
use mathlib.Core.Path.{ap₂, ◌∙◌}
use mathlib.Core.List.{List}
use Prim.Native.Nat.{ℕ}
use Rattle.table.specs.declared.tag.Tag.{Tag}
use Rattle.statistics.specs.Counts.{tier_count}
use Rattle.board.proofs.BoardLaws.{tags_read, order-read}
use Rattle.shown.proofs.found.tier_count.Goals as goal

pub returns : goal.returns
returns c =
    let a = c.args in
    let bs = a.board.now in
    let t = c.table_of in
    let o = c.order_of in
    c.tier_count.ensures ∙ ap₂ (λ (tags : List Tag) (order : List ℕ). tier_count a.tier tags order) (tags_read bs t.result.now t.ensures) (order-read bs o.result.now o.ensures)
