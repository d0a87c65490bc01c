-- Invariant: the names compare as their bytes from i on do.
use mathlib.Core.Path.{◌≡◌}
use Prim.Native.Nat.{◌≤◌}
use lib.ListN.{length}
use Rattle.names.specs.Order.{compared, case_of}
use Rattle.names.proofs.Loops.{cased, left_at}
use Rattle.names.proofs.order.compare_cased.Given as goal

abbrev pub invariant-loop-i : goal.invariant-loop-i
invariant-loop-i l = (l.i ≤ length l.a) × ((l.i ≤ length l.b) × (compared (case_of l.lowered l.a) (case_of l.lowered l.b) ≡ left_at (cased l.lowered) l.a l.b l.i))
