-- `board::tag_lists::push_order` meets its contract.
use mathlib.Core.Path.{◌∙◌}
use mathlib.Core.List.{List}
use Prim.Native.Nat.{ℕ, ◌<◌}
use native.Mathlib.Nat.{mod-eq_of_lt}
use Rattle.tags.specs.Lists.{pushed}
use Rattle.board.proofs.BoardLaws.{order_put}
use borrow.Author.Rules.{rules}
use Rattle.board.proofs.tag_lists.push_order.Goals as goal

pub returns : goal.returns
returns c =
    let a = c.args in
    let from = c.order_start-start in
    let to = c.graces_start-end in
    let put = c.push in
    let small : a.k < 65536 = search rules in
    order_put a.b.now put.new.s c.requires from.result to.result from.ensures to.ensures (λ (m : ℕ) (l : List ℕ). pushed m l a.k) put.auto.s (put.ensures ∙ rw (mod-eq_of_lt small))
