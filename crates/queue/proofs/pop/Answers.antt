-- `queue::pop` meets its contract.
use mathlib.Core.Path.{ap, sym, ◌∙◌}
use Prim.Native.Nat.{ℕ, ◌<◌, ◌-◌}
use native.Mathlib.Omega.{arith}
use lib.ListN.{length, take}
use Rattle.std.specs.Prelude.{Some}
use Rattle.queue.specs.Queue.{places_in, queue_in}
use Rattle.queue.proofs.QueueLaws.{queue_short, queue-room_same, queue-at, recount, popped-first}
use Rattle.queue.proofs.pop.Goals as goal

pub returns : goal.returns
returns c =
    let q = c.args.q.now in
    let ws = queue_in q in
    let n = c.queued-n in
    let w = c.place_at-first in
    let up = c.move_up in
    let put = c.put_cell in
    let some : 0 < length ws = omega (arith, n.ensures) in (
      sym (popped-first ws some ∙ ap Some (sym (w.ensures ∙ queue-at q 0 some))),
      recount up.new.q put.new.s (n.result - 1) put.auto.s (omega (arith, queue_short q, queue-room_same up.new.q q up.auto.q)) put.ensures
          ∙ ap (λ (m : ℕ). take (m - 1) (places_in up.new.q)) n.ensures
          ∙ up.ensures,
    )
