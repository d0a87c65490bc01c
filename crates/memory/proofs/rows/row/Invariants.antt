use mathlib.Core.Path.{◌≡◌}
use Prim.Native.Nat.{◌≤◌}
use lib.ListN.{get_or}
use lib.Seq.{paste}
use Rattle.memory.specs.Cells.{rows_in, no_row}
use Rattle.memory.proofs.rows.row.Given as goal

abbrev pub invariant-loop-j : goal.invariant-loop-j
invariant-loop-j l = (l.j ≤ 32) × (l.w ≡ paste no_row 0 (get_or (rows_in l.s) l.k no_row) l.j)
