use mathlib.Core.Path.{◌≡◌}
use lib.ListN.{length, take}
use Rattle.tags.specs.Lists.{list_in}
use Rattle.lent.specs.Lent.{over_bytes, tag_bytes}
use Rattle.lent.proofs.put_tags.Given as goal

abbrev pub invariant-loop-i : goal.invariant-loop-i
invariant-loop-i l = (length l.out ≡ length l.initial.out) × (l.out ≡ over_bytes l.initial.out (tag_bytes (take l.i (list_in l.list))))
