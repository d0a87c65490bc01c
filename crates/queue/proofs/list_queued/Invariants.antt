use mathlib.Core.Path.{◌≡◌}
use lib.ListN.{length, take}
use Rattle.tags.specs.Lists.{list_in, room}
use Rattle.queue.specs.Queue.{queue_in, write_tags}
use Rattle.queue.proofs.list_queued.Given as goal

abbrev pub invariant-loop-i : goal.invariant-loop-i
invariant-loop-i l = (length l.list ≡ length l.initial.list) × (list_in l.list ≡ take (room l.initial.list) (take l.i (write_tags (queue_in l.q))))
