-- `board::tag_lists::shorten_asked` meets its contract.
use mathlib.Core.List.{List}
use Prim.Native.Nat.{ℕ}
use lib.ListN.{take}
use Rattle.board.proofs.BoardLaws.{asked_put}
use Rattle.board.proofs.tag_lists.shorten_asked.Goals as goal

pub returns : goal.returns
returns c =
    let a = c.args in
    let from = c.asked_start-start in
    let to = c.keys_start-end in
    let put = c.shorten in
    asked_put a.b.now put.new.s c.requires from.result to.result from.ensures to.ensures (λ (m : ℕ) (l : List ℕ). take a.n l) put.auto.s put.ensures
