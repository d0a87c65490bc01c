-- Invariant: the last dot is the last of the bytes from i on, and without one the dot kept so far.
use mathlib.Core.Path.{◌≡◌}
use Prim.Native.Nat.{◌≤◌}
use lib.ListN.{length, drop}
use Rattle.names.specs.Bits.{last_dot}
use Rattle.names.proofs.bits.last_dot.Given as goal

abbrev pub invariant-loop-i : goal.invariant-loop-i
invariant-loop-i l = (l.i ≤ length l.s) × (last_dot 0 0 l.s ≡ last_dot l.i l.last (drop l.i l.s))
