-- `removal::remove_at` meets its contract.
use Rattle.std.proofs.Common.{arith}
use Rattle.tags.proofs.ListLaws.{list_short}
use Rattle.removal.proofs.RemoveLaws.{closing_all}
use Rattle.removal.proofs.remove_at.Goals as goal

pub overflow_step-i : goal.overflow_step-i
overflow_step-i c = omega (arith, list_short c.args.s.now)

pub overflow_mul-i-end : goal.overflow_mul-i-end
overflow_mul-i-end c = omega (arith, list_short c.args.s.now)

pub overflow_mul-i : goal.overflow_mul-i
overflow_mul-i c = omega (arith, list_short c.args.s.now)

pub bounds-s-i : goal.bounds-s-i
bounds-s-i c = omega (arith, list_short c.args.s.now)

pub bounds-s-i-in-loop-i : goal.bounds-s-i-in-loop-i
bounds-s-i-in-loop-i c = omega (arith, list_short c.args.s.now)

pub returns : goal.returns
returns c =
    let a = c.args in
    let l = c.loop-i in
    let n = c.count-n in
    closing_all a.p n.result l.i a.s.now l.s l.invariant.1 n.ensures (omega arith) (omega arith) c.put_half.new.s c.put_half.ensures
