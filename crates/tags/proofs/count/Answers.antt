-- `tags::count` meets its contract.
use native.Mathlib.Omega.{arith}
use Rattle.tags.proofs.ListLaws.{length_list}
use Rattle.tags.proofs.count.Goals as goal

pub returns-then-size-eq0 : goal.returns-then-size-eq0
returns-then-size-eq0 c = omega (arith, length_list c.args.s.now)

pub returns-then-n-places : goal.returns-then-n-places
returns-then-n-places c = omega (arith, length_list c.args.s.now)

pub returns-else-n-places : goal.returns-else-n-places
returns-else-n-places c = omega (arith, length_list c.args.s.now)
