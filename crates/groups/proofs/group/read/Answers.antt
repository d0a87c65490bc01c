use Rattle.groups.specs.Groups.{group_read}
use Rattle.groups.proofs.group.read.Goals as goal

pub returns-then-first : goal.returns-then-first
unfolding group_read
returns-then-first c = rw c.if-first.true

pub returns-else-first : goal.returns-else-first
unfolding group_read
returns-else-first c = rw c.if-first.false
