use mathlib.Core.Path.{◌≡◌}
use Prim.Native.Nat.{min}
use lib.ListN.{length}
use lib.Seq.{paste}
use Rattle.settings.specs.Configured.{given_groups, group_places}
use Rattle.settings.proofs.configured.keep_configured.Given as goal

abbrev pub invariant-loop-i : goal.invariant-loop-i
invariant-loop-i l = (l.n ≡ min (length (given_groups l.s)) (length (group_places l.initial.c))) × ((length l.c ≡ length l.initial.c) × (group_places l.c ≡ paste (group_places l.initial.c) 0 (given_groups l.s) l.i))
