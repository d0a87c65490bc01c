-- The tags of the writes that wait, in a list that has room for all of them.
use mathlib.Core.Path.{◌≡◌, ap, ◌∙◌}
use mathlib.Core.List.{List}
use Prim.Native.Nat.{ℕ, ◌≤◌}
use native.Mathlib.Omega.{arith}
use lib.ListN.{length, length-map}
use lib.Seq.{take_all}
use Rattle.tags.specs.Lists.{room, fitted}
use Rattle.queue.specs.Queue.{queue_in, write_tags}
use Rattle.queue.specs.declared.Write.{Write}
use Rattle.queue.proofs.QueueLaws.{queue_short}
use Rattle.board.specs.Layout.{queue, IsBoard, parts_in}
use Rattle.board.specs.Board.{board_from, board_in}
use Rattle.board.proofs.BoardLaws.{size_of_part, queue-read}
use Rattle.writes.specs.Failing.{queued_tags}

few : (bs : List ℕ) → IsBoard bs → length (board_in bs).queue ≤ 42
unfolding board_in board_from
few bs h = omega (arith, queue_short (parts_in bs queue), size_of_part queue bs h)

pub all_queued : (bs q list : List ℕ) → IsBoard bs → q ≡ parts_in bs queue → 42 ≤ room list → fitted (room list) (write_tags (queue_in q)) ≡ queued_tags (board_in bs)
all_queued bs q list h e r =
    ap (λ (l : List Write). fitted (room list) (write_tags l)) (queue-read bs q e)
    ∙ take_all (room list) (queued_tags (board_in bs)) (omega (arith, few bs h, length-map (board_in bs).queue (λ (w : Write). w.tag)))
