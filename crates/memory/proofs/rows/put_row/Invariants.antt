use mathlib.Core.Path.{◌≡◌}
use Prim.Native.Nat.{◌≤◌, ◌*◌}
use lib.ListN.{length}
use lib.Seq.{paste}
use Rattle.memory.specs.Cells.{cells_in}
use Rattle.memory.proofs.rows.put_row.Given as goal

abbrev pub invariant-loop-j : goal.invariant-loop-j
invariant-loop-j l = (l.j ≤ 32) × ((length l.s ≡ length l.initial.s) × (cells_in l.s ≡ paste (cells_in l.initial.s) (32 * l.k) l.w l.j))
