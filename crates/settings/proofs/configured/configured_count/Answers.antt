-- `settings::configured::configured_count` meets its contract.
use native.Mathlib.Omega.{arith}
use Rattle.settings.proofs.GroupLaws.{length-kept}
use Rattle.settings.proofs.configured.configured_count.Goals as goal

pub returns-then-n-room : goal.returns-then-n-room
returns-then-n-room c = omega (arith, length-kept c.args.c.now)

pub returns-else-n-room : goal.returns-else-n-room
returns-else-n-room c = omega (arith, length-kept c.args.c.now)
