-- `board::tag_lists::order_at` meets its contract.
use mathlib.Core.Path.{ap, ◌∙◌}
use mathlib.Core.List.{List}
use Prim.Native.Nat.{ℕ}
use lib.ListN.{get_or}
use Rattle.board.proofs.BoardLaws.{order-read}
use Rattle.board.proofs.tag_lists.order_at.Goals as goal

pub returns : goal.returns
returns c =
    let a = c.args in
    let t = c.order_of in
    c.at.ensures ∙ ap (λ (l : List ℕ). get_or l a.i 0) (order-read a.b.now t.result.now t.ensures)
