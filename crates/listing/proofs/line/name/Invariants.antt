use mathlib.Core.Path.{◌≡◌}
use lib.ListN.{drop}
use Rattle.listing.specs.Line.{fields, as_name}
use Rattle.listing.proofs.line.name.Given as goal

abbrev pub invariant-loop-b : goal.invariant-loop-b
invariant-loop-b l = as_name (fields l.line) ≡ as_name (fields (drop l.b-index l.line))
