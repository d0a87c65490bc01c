-- `queue::list_queued` meets its contract.
use borrow.Author.Rules.{rules}
use mathlib.Core.Path.{ap, ◌∙◌}
use Prim.Native.Nat.{ℕ, ◌<◌, ◌%◌}
use native.Mathlib.Nat.{mod-eq_of_lt}
use native.Mathlib.Omega.{arith}
use lib.ListN.{length}
use Rattle.tags.specs.Lists.{list_in, room, pushed}
use Rattle.tags.proofs.ListLaws.{room_same}
use Rattle.queue.specs.Queue.{queue_in}
use Rattle.queue.proofs.QueueLaws.{queue-at, tags_more}
use Rattle.queue.proofs.list_queued.Goals as goal

pub loop-i-preserved : goal.loop-i-preserved
loop-i-preserved c =
    let ws = queue_in c.args.q.now in
    let l = c.loop-i in
    let w = c.place_at in
    let first = c.clear.new.s in
    let done = l.invariant.1 in
    let h : l.i < length ws = omega arith in
    let small : w.result.tag < 65536 = search rules in (
      c.push.auto.s ∙ l.invariant.0,
      c.push.ensures
          ∙ ap (λ (m : ℕ). pushed m (list_in l.list) (w.result.tag % 65536)) (room_same l.list first l.invariant.0)
          ∙ ap (pushed (room first) (list_in l.list)) (mod-eq_of_lt small)
          ∙ tags_more (room first) ws l.i (list_in l.list) done w.result h (w.ensures ∙ queue-at c.args.q.now l.i h),
    )
