use mathlib.Core.Path.{◌≡◌}
use mathlib.Core.List.{◌++◌}
use Prim.Native.Nat.{◌≤◌, ◌-◌}
use lib.ListN.{length, take, drop}
use Rattle.tags.specs.Lists.{list_in, room}
use Rattle.slices.proofs.slice.list_slice.Given as goal

abbrev pub invariant-loop-i : goal.invariant-loop-i
invariant-loop-i l =
    (l.end ≤ l.n) × ((length l.list ≡ length l.initial.list) × (list_in l.list ≡ take (room l.initial.list) (list_in l.initial.list ++ take (l.i - l.start) (drop l.start (list_in l.sorted)))))
