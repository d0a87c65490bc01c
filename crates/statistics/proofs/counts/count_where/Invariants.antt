use mathlib.Core.Path.{◌≡◌}
use mathlib.Core.Bool.{Bool}
use Prim.Native.Nat.{ℕ, ◌<◌, ◌≤◌}
use lib.ListN.{length, take}
use Rattle.lists.specs.Keep.{keep}
use Rattle.tags.specs.Lists.{list_in}
use Rattle.statistics.proofs.counts.count_where.Given as goal

abbrev pub invariant-loop-i : goal.invariant-loop-i
invariant-loop-i g l =
    (l.n ≤ l.i)
    × ((passes : ℕ → Bool) → ((k : ℕ) (r : Bool) → k < 0x1_0000_0000_0000_0000 → goal.F-post g l.test k r → r ≡ passes k) → l.n ≡ length (keep passes (take l.i (list_in l.list))))
