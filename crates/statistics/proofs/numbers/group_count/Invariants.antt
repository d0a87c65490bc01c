use mathlib.Core.Path.{◌≡◌}
use mathlib.Core.List.{List}
use Prim.Native.Nat.{ℕ, ◌≤◌}
use lib.ListN.{length, take}
use Rattle.tags.specs.Lists.{list_in}
use Rattle.settings.specs.Configured.{configured_in}
use Rattle.statistics.specs.Numbers.{firsts, named}
use Rattle.statistics.proofs.numbers.group_count.Given as goal

abbrev all : List ℕ → List ℕ → List ℕ
all configured recorded = named (configured_in configured) (list_in recorded)

abbrev pub invariant-loop-i : goal.invariant-loop-i
invariant-loop-i l = ((l.n ≤ l.i) × (l.n ≡ length (firsts (take l.i (all l.configured l.recorded)))))
