use Rattle.std.proofs.Common.{◌+◌, ◌*◌, ◌≤◌}
use Rattle.removal.proofs.RemoveLaws.{Closing}
use Rattle.removal.proofs.remove_at.Given as goal

abbrev pub invariant-loop-i : goal.invariant-loop-i
invariant-loop-i l = (2 * l.p + 2 ≤ l.i) × Closing l.p l.i l.initial.s l.s
