-- `board::waiting::queued` meets its contract.
use mathlib.Core.Path.{ap, ◌∙◌}
use mathlib.Core.List.{List}
use lib.ListN.{length}
use Rattle.queue.specs.declared.Write.{Write}
use Rattle.board.proofs.BoardLaws.{queue-read}
use Rattle.board.proofs.waiting.queued.Goals as goal

pub returns : goal.returns
returns c =
    let a = c.args in
    let t = c.queue_of in
    c.queued.ensures ∙ ap (λ (l : List Write). length l) (queue-read a.b.now t.result.now t.ensures)
