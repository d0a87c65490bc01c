use mathlib.Core.Path.{◌≡◌}
use lib.ListN.{length}
use Rattle.queue.specs.Queue.{places_in}
use Rattle.queue.proofs.QueueLaws.{Moving}
use Rattle.queue.proofs.move_up.Given as goal

abbrev pub invariant-loop-i : goal.invariant-loop-i
invariant-loop-i l = (length l.q ≡ length l.initial.q) × Moving l.i (places_in l.initial.q) (places_in l.q)
