use mathlib.Core.Path.{◌≡◌}
use mathlib.Core.Bool.{Bool}
use Prim.Native.Nat.{ℕ}
use lib.ListN.{length, take}
use Rattle.lists.specs.Keep.{keep}
use Rattle.tags.specs.Lists.{list_in, room}
use Rattle.rounds.specs.Collect.{Decides}
use Rattle.rounds.proofs.collect.collect.Given as goal

abbrev pub invariant-loop-i : goal.invariant-loop-i
invariant-loop-i g l =
    (length l.into ≡ length l.initial.into)
    × ((p : ℕ → Bool) → Decides (goal.F-post g l.test) p → list_in l.into ≡ take (room l.initial.into) (keep p (take l.i (list_in l.from))))
