use mathlib.Core.Path.{◌≡◌}
use lib.ListN.{take, drop}
use Rattle.tags.specs.Lists.{member}
use Rattle.panel.specs.Panel.{tags_of}
use Rattle.panel.proofs.check.seen.Given as goal

abbrev pub invariant-loop-i : goal.invariant-loop-i
invariant-loop-i l = member l.k (take l.n (tags_of l.list)) ≡ member l.k (drop l.i (take l.n (tags_of l.list)))
