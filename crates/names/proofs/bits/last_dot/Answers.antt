use mathlib.Core.Path.{sym, ◌∙◌}
use native.Mathlib.Omega.{arith}
use borrow.Author.Tests.{eq-eqb, ne_eqb}
use Rattle.names.proofs.Loops.{dot_more, dot_end}
use Rattle.names.proofs.bits.last_dot.Goals as goal
use Rattle.names.proofs.bits.last_dot.Goals.{else-s-i-eq46, then-s-i-eq46}

pub loop-i-preserved : goal.loop-i-preserved
loop-i-preserved c =
    let s = c.args.s.now in
    let loop = c.loop-i in
    (omega arith, loop.invariant.1 ∙ dot_more s loop.i _ (omega arith) ∙ elim c.if-s-i-eq46.branch [ then-s-i-eq46 w ↦ simp (eq-eqb _ _ w.if-s-i-eq46.true, w.last-is) | else-s-i-eq46 w ↦ simp (ne_eqb _ _ w.if-s-i-eq46.false, w.last-is) ])

pub returns : goal.returns
returns c = sym (c.loop-i.invariant.1 ∙ dot_end c.args.s.now c.loop-i.i _ c.loop-i-test.false)
