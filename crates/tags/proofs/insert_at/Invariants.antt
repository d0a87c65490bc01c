use mathlib.Core.Path.{◌≡◌}
use Prim.Native.Nat.{◌≤◌, ◌%◌}
use lib.ListN.{length, get_or}
use Rattle.memory.specs.Halves.{halves_in}
use Rattle.tags.specs.Lists.{list_in}
use Rattle.tags.proofs.ListLaws.{Opening, opened}
use Rattle.tags.proofs.insert_at.Given as goal

abbrev pub invariant-loop-i : goal.invariant-loop-i
invariant-loop-i l =
    (l.p ≤ l.i) × ((l.i ≤ l.n) × ((length l.s ≡ length l.initial.s) × ((l.x % 65536 ≡ get_or (opened (list_in l.initial.s) l.p (l.k % 65536)) l.i 0) × Opening (opened (list_in l.initial.s) l.p (l.k % 65536)) l.i (halves_in l.initial.s) (halves_in l.s))))
