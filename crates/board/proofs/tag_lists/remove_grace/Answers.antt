-- `board::tag_lists::remove_grace` meets its contract.
use mathlib.Core.List.{List}
use Prim.Native.Nat.{ℕ}
use Rattle.lists.specs.Keep.{without}
use Rattle.board.proofs.BoardLaws.{graces_put}
use Rattle.board.proofs.tag_lists.remove_grace.Goals as goal

pub returns : goal.returns
returns c =
    let a = c.args in
    let from = c.graces_start-start in
    let to = c.asked_start-end in
    let put = c.remove in
    graces_put a.b.now put.new.s c.requires from.result to.result from.ensures to.ensures (λ (m : ℕ) (l : List ℕ). without a.k l) put.auto.s put.ensures
