-- `board::waiting::pop_write` meets its contract.
use mathlib.Core.Path.{ap, ◌∙◌}
use mathlib.Core.List.{List}
use Prim.Native.Nat.{ℕ}
use Rattle.queue.specs.Queue.{popped, rest}
use Rattle.queue.specs.declared.Write.{Write}
use Rattle.board.specs.Layout.{queue}
use Rattle.board.proofs.BoardLaws.{part_lent, queue-read, queue_put}
use Rattle.board.proofs.waiting.pop_write.Goals as goal

pub returns : goal.returns
returns c =
    let bs = c.args.b.now in
    let from = c.queue_start-start in
    let to = c.groups_start-end in
    let put = c.pop in (
      put.ensures.0 ∙ ap popped (queue-read bs _ (part_lent queue bs from.result to.result from.ensures to.ensures)),
      queue_put bs put.new.q c.requires from.result to.result from.ensures to.ensures (λ (m : ℕ) (l : List Write). rest l) put.auto.q put.ensures.1,
    )
