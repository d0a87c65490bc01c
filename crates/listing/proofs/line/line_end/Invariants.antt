use mathlib.Core.Path.{◌≡◌}
use lib.ListN.{drop}
use Rattle.listing.specs.Line.{line_end}
use Rattle.listing.proofs.line.line_end.Given as goal

abbrev pub invariant-loop-i : goal.invariant-loop-i
invariant-loop-i l = line_end l.from (drop l.from l.s) ≡ line_end l.i (drop l.i l.s)
