use mathlib.Core.Path.{◌≡◌}
use mathlib.Core.List.{List}
use Prim.Native.Nat.{ℕ}
use lib.ListN.{length, take}
use Rattle.tags.specs.Lists.{list_in}
use Rattle.settings.specs.Configured.{configured_in}
use Rattle.lent.specs.Lent.{cell_bytes, over_bytes, records}
use Rattle.statistics.specs.Numbers.{firsts, named}
use Rattle.statistics.specs.Stats.{facts, stat_cells}
use Rattle.statistics.proofs.group_stats.Given as goal

abbrev all : List ℕ → List ℕ → List ℕ
all configured recorded = named (configured_in configured) (list_in recorded)

abbrev pub invariant-loop-i : goal.invariant-loop-i
invariant-loop-i l =
    (l.done ≡ length (firsts (take l.i (all l.configured l.recorded)))) × ((length l.out ≡ length l.initial.out)
    × (l.out ≡ over_bytes l.initial.out (cell_bytes (records (stat_cells (facts l.t l.order l.configured l.groups l.recorded)) (firsts (take l.i (all l.configured l.recorded)))))))
