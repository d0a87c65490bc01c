-- `listing::line::line_end` meets its contract.
use mathlib.Core.Path.{sym, ◌∙◌}
use Rattle.listing.proofs.Lines.{feed_end, feed_here, feed_later}
use Rattle.listing.proofs.line.line_end.Goals as goal

pub returns-then-s-i-eq10 : goal.returns-then-s-i-eq10
returns-then-s-i-eq10 c =
    sym (c.loop-i.invariant ∙ feed_here c.args.s.now _ c.loop-i-test.true c.if-s-i-eq10.true)

pub loop-i-preserved : goal.loop-i-preserved
loop-i-preserved c =
    c.loop-i.invariant ∙ feed_later c.args.s.now _ c.loop-i-test.true c.if-s-i-eq10.false

pub returns : goal.returns
returns c = sym (c.loop-i.invariant ∙ feed_end c.args.s.now _ c.loop-i-test.false)
