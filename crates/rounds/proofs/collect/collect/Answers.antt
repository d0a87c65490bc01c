-- `rounds::collect::collect` meets its contract.
use mathlib.Core.Path.{refl, ap, sym, ◌∙◌}
use Prim.Native.Nat.{ℕ, ◌<◌, ◌%◌}
use native.Mathlib.Omega.{arith}
use lib.ListN.{length}
use lib.Seq.{take-nil}
use Rattle.lists.specs.Keep.{keep}
use Rattle.tags.specs.Lists.{list_in, room, pushed}
use Rattle.tags.proofs.ListLaws.{list_small, room_same}
use Rattle.tags.proofs.CollectLaws.{clipped_yes, clipped_no}
use Rattle.rounds.proofs.collect.collect.Goals as goal
use Rattle.rounds.proofs.collect.collect.Goals.{then-test, else-test}

pub loop-i-init : goal.loop-i-init
unfolding keep
loop-i-init g c = (refl, λ p d. c.clear.ensures ∙ sym (take-nil (room c.clear.new.s)))

pub loop-i-preserved : goal.loop-i-preserved
loop-i-preserved g c =
    let l = c.loop-i in
    let from = list_in c.args.from.now in
    let first = c.clear.new.s in
    let k = c.at-k in
    let small : k.result < 65536 = rw k.ensures (list_small c.args.from.now l.i) in
    elim c.if-test.branch [
      | then-test w ↦ (
        ap length w.into-is ∙ w.push.auto.s ∙ l.invariant.0,
        λ p d. ap list_in w.into-is ∙ w.push.ensures
            ∙ ap (λ (n : ℕ). pushed n (list_in l.into) (k.result % 65536)) (room_same l.into first l.invariant.0)
            ∙ clipped_yes p from (room first) l.i (list_in l.into) (l.invariant.1 p d) k.result 0 (omega arith) small k.ensures (sym (d k.result c.test.result small c.test.ensures) ∙ w.if-test.true),
      )
      | else-test w ↦ (
        ap length w.into-is ∙ l.invariant.0,
        λ p d. ap list_in w.into-is
            ∙ clipped_no p from (room first) l.i (list_in l.into) (l.invariant.1 p d) k.result 0 (omega arith) k.ensures (sym (d k.result c.test.result small c.test.ensures) ∙ w.if-test.false),
      )
    ]
