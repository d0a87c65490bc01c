-- Each answer is the case of `lower_of` that the tests came to.
use borrow.Author.Tests.{le-leb, lt-leb}
use Rattle.names.specs.Order.{lower_of}
use Rattle.names.proofs.order.lower.Goals as goal
use Rattle.names.proofs.order.lower.Goals.{else-b-ge65-via-then-b-ge65+else-b-le90, else-b-ge65-via-else-b-ge65}

pub returns-then-b-le90 : goal.returns-then-b-le90
unfolding lower_of
returns-then-b-le90 c = simp (le-leb _ _ c.if-b-ge65.true, le-leb _ _ c.if-b-le90.true)

pub returns-else-b-ge65 : goal.returns-else-b-ge65
unfolding lower_of
returns-else-b-ge65 c = elim c.else-b-ge65.branch [
  | else-b-ge65-via-then-b-ge65+else-b-le90 w ↦ simp (le-leb _ _ w.if-b-ge65.true, lt-leb _ _ w.if-b-le90.false)
  | else-b-ge65-via-else-b-ge65 w ↦ simp (lt-leb _ _ w.if-b-ge65.false)
]
