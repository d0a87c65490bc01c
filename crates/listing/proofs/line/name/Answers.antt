-- `listing::line::name` meets its contract.
use mathlib.Core.Path.{sym, ◌∙◌}
use Rattle.listing.proofs.Lines.{name_end, name_space, name_byte}
use Rattle.listing.proofs.line.name.Goals as goal

pub returns-then-b-eq32 : goal.returns-then-b-eq32
returns-then-b-eq32 c = sym (c.loop-b.invariant ∙ name_space c.args.line.now _ c.loop-b-test.true c.if-b-eq32.true)

pub loop-b-preserved : goal.loop-b-preserved
loop-b-preserved c = c.loop-b.invariant ∙ name_byte c.args.line.now _ c.loop-b-test.true c.if-b-eq32.false

pub returns : goal.returns
returns c = sym (c.loop-b.invariant ∙ name_end c.args.line.now _ c.loop-b-test.false)
