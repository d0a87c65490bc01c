-- `board::waiting::clear_queue` meets its contract.
use mathlib.Core.List.{List, []}
use Prim.Native.Nat.{ℕ}
use Rattle.queue.specs.declared.Write.{Write}
use Rattle.board.proofs.BoardLaws.{queue_put}
use Rattle.board.proofs.waiting.clear_queue.Goals as goal

pub returns : goal.returns
returns c =
    let a = c.args in
    let from = c.queue_start-start in
    let to = c.groups_start-end in
    let put = c.clear in
    queue_put a.b.now put.new.q c.requires from.result to.result from.ensures to.ensures (λ (m : ℕ) (l : List Write). []) put.auto.q put.ensures
