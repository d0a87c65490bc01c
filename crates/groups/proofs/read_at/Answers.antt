use Rattle.groups.specs.Groups.{group_read}
use Rattle.groups.proofs.read_at.Goals as goal

pub returns-else-first : goal.returns-else-first
unfolding group_read
returns-else-first c = rw (c.if-first.false) c.put_rate.ensures
