use mathlib.Core.Path.{◌≡◌}
use Prim.Native.Nat.{◌-◌, ◌^◌, ◌≤◌, ◌<◌}
use lib.ListN.{drop}
use Rattle.listing.specs.Line.{number_from}
use Rattle.listing.proofs.Fields.{ahead}
use Rattle.listing.proofs.line.number_at.Given as goal

abbrev pub invariant-loop-i : goal.invariant-loop-i
invariant-loop-i l = (l.at ≤ l.i) × (l.i - l.at ≤ 15) × (l.value < 10 ^ (l.i - l.at)) × (number_from l.at (drop l.at l.line) ≡ ahead l.line l.at l.i l.value)
