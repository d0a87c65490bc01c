use mathlib.Core.Path.{sym, ◌∙◌}
use native.Mathlib.Omega.{arith}
use borrow.Author.Tests.{le-leb, lt-leb}
use Rattle.names.proofs.Loops.{digits_more, digits_end}
use Rattle.names.proofs.bits.digits_from.Goals as goal
use Rattle.names.proofs.bits.digits_from.Goals.{then-s-i-lt48-via-then-s-i-lt48, then-s-i-lt48-via-else-s-i-lt48+then-s-i-gt57}

pub returns-then-s-i-lt48 : goal.returns-then-s-i-lt48
returns-then-s-i-lt48 c =
    let more = c.loop-i.invariant ∙ digits_more c.args.s.now c.loop-i.i (omega arith) in
    sym (more ∙ elim c.then-s-i-lt48.branch [ then-s-i-lt48-via-then-s-i-lt48 w ↦ simp (lt-leb _ _ w.if-s-i-lt48.true) | then-s-i-lt48-via-else-s-i-lt48+then-s-i-gt57 w ↦ simp (le-leb _ _ w.if-s-i-lt48.false, lt-leb _ _ w.if-s-i-gt57.true) ])

pub loop-i-preserved : goal.loop-i-preserved
loop-i-preserved c =
    let s = c.args.s.now in
    let loop = c.loop-i in
    loop.invariant ∙ digits_more s loop.i (omega arith) ∙ simp (le-leb _ _ c.if-s-i-lt48.false, le-leb _ _ c.if-s-i-gt57.false)

pub returns : goal.returns
returns c = sym (c.loop-i.invariant ∙ digits_end c.args.s.now c.loop-i.i c.loop-i-test.false)
