use mathlib.Core.Path.{sym, ◌∙◌}
use native.Mathlib.Omega.{arith}
use borrow.Author.Tests.{le-leb, lt-leb}
use Rattle.names.proofs.Loops.{bytes_more, bytes_end}
use Rattle.names.proofs.directory.good_bytes.Goals as goal
use Rattle.names.proofs.directory.good_bytes.Goals.{then-b-lt33-via-then-b-lt33, then-b-lt33-via-else-b-lt33+then-b-gt126}

pub returns-then-b-lt33 : goal.returns-then-b-lt33
returns-then-b-lt33 c =
    let more = c.loop-b.invariant.1 ∙ bytes_more c.args.names.now c.loop-b.b-index (omega arith) in
    sym (more ∙ elim c.then-b-lt33.branch [ then-b-lt33-via-then-b-lt33 w ↦ simp (lt-leb _ _ w.if-b-lt33.true) | then-b-lt33-via-else-b-lt33+then-b-gt126 w ↦ simp (le-leb _ _ w.if-b-lt33.false, lt-leb _ _ w.if-b-gt126.true) ])

pub loop-b-preserved : goal.loop-b-preserved
loop-b-preserved c =
    let loop = c.loop-b in
    (omega arith, loop.invariant.1 ∙ bytes_more c.args.names.now loop.b-index (omega arith) ∙ simp (le-leb _ _ c.if-b-lt33.false, le-leb _ _ c.if-b-gt126.false))

pub returns : goal.returns
returns c = sym (c.loop-b.invariant.1 ∙ bytes_end c.args.names.now c.loop-b.b-index c.loop-b-test.false)
