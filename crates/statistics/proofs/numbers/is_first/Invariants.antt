use mathlib.Core.Path.{◌≡◌}
use mathlib.Core.List.{List}
use Prim.Native.Nat.{ℕ}
use lib.ListN.{take, drop}
use Rattle.tags.specs.Lists.{list_in, member}
use Rattle.settings.specs.Configured.{configured_in}
use Rattle.statistics.specs.Numbers.{named}
use Rattle.statistics.proofs.numbers.is_first.Given as goal

abbrev all : List ℕ → List ℕ → List ℕ
all configured recorded = named (configured_in configured) (list_in recorded)

abbrev pub invariant-loop-j : goal.invariant-loop-j
invariant-loop-j l =
    (member l.group (take l.i (all l.configured l.recorded)) ≡ member l.group (drop l.j (take l.i (all l.configured l.recorded))))
