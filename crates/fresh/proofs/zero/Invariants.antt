use mathlib.Core.Path.{◌≡◌}
use lib.ListN.{length, take}
use Rattle.fresh.proofs.FreshLaws.{zeros}
use Rattle.fresh.proofs.zero.Given as goal

abbrev pub invariant-loop-i : goal.invariant-loop-i
invariant-loop-i l = (length l.s ≡ length l.initial.s) × (take l.i l.s ≡ zeros l.i)
