use mathlib.Core.Path.{◌≡◌}
use Prim.Native.Nat.{min}
use lib.ListN.{length, take}
use Rattle.lent.specs.Lent.{over_bytes}
use Rattle.lent.proofs.put_bytes.Given as goal

abbrev pub invariant-loop-j : goal.invariant-loop-j
invariant-loop-j l =
    (l.n ≡ min (length l.initial.out) (length l.bytes)) × ((length l.out ≡ length l.initial.out) × (l.out ≡ over_bytes l.initial.out (take l.j l.bytes)))
