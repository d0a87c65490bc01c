-- `queue::move_up` meets its contract.
use mathlib.Core.Path.{ap, sym, ◌∙◌}
use Prim.Native.Nat.{◌<◌, ◌-◌}
use native.Mathlib.Omega.{arith}
use lib.ListN.{length, set}
use Rattle.queue.specs.Queue.{places_in}
use Rattle.queue.proofs.QueueLaws.{length_places, queue_short, queue-room_same, moving_more, moving_all}
use Rattle.queue.proofs.move_up.Goals as goal

pub loop-i-preserved : goal.loop-i-preserved
loop-i-preserved c =
    let q = c.args.q.now in
    let l = c.loop-i in
    let put = c.put_place in
    let same = l.invariant.0 in
    let h : l.i < length (places_in q) = omega (arith, length_places q, queue_short q, c.queued-i-end.ensures) in (
      put.auto.q ∙ same,
      moving_more l.i (places_in q) (places_in l.q) l.invariant.1 (places_in put.new.q) (omega arith) h
          (length_places l.q ∙ queue-room_same l.q q same ∙ sym (length_places q))
          (put.ensures ∙ ap (set (places_in l.q) (l.i - 1)) c.place_at-w.ensures),
    )

pub returns : goal.returns
returns c =
    let l = c.loop-i in
    moving_all c.args.q.now l.q l.i c.queued-i-end.result l.invariant.1 c.queued-i-end.ensures (omega arith)
