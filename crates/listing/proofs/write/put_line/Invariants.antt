-- The fields of the first i tags stand behind what the line had.
use Rattle.std.proofs.Common.{◌≡◌, ◌++◌}
use Rattle.tags.specs.Lists.{list_in}
use Rattle.listing.proofs.Joined.{so_far}
use Rattle.listing.proofs.write.put_line.Given as goal

abbrev pub invariant-loop-i : goal.invariant-loop-i
invariant-loop-i g l = l.out.items ≡ l.fn.out.items ++ so_far l.ms l.boundary (list_in l.list) l.i
