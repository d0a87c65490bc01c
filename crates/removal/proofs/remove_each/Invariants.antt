use Rattle.std.proofs.Common.{◌≡◌, ◌≤◌, length}
use Rattle.memory.specs.Halves.{halves_in}
use Rattle.removal.proofs.EachLaws.{Removing}
use Rattle.removal.proofs.remove_each.Given as goal

abbrev pub invariant-loop-i : goal.invariant-loop-i
invariant-loop-i l = (l.j ≤ l.i) × ((length l.s ≡ length l.initial.s) × Removing l.k l.i l.j (halves_in l.initial.s) (halves_in l.s))
