-- `board::tag_lists::order_count` meets its contract.
use mathlib.Core.Path.{ap, ◌∙◌}
use mathlib.Core.List.{List}
use Prim.Native.Nat.{ℕ}
use lib.ListN.{length}
use Rattle.board.proofs.BoardLaws.{order-read}
use Rattle.board.proofs.tag_lists.order_count.Goals as goal

pub returns : goal.returns
returns c =
    let a = c.args in
    let t = c.order_of in
    c.count.ensures ∙ ap (λ (l : List ℕ). length l) (order-read a.b.now t.result.now t.ensures)
