use mathlib.Core.Path.{◌≡◌}
use lib.ListN.{drop}
use Rattle.tags.specs.Lists.{list_in}
use Rattle.table.specs.Table.{table_in}
use Rattle.rounds.specs.Tick.{least_rate}
use Rattle.rounds.proofs.tick.tick_of.Given as goal

abbrev pub invariant-loop-i : goal.invariant-loop-i
invariant-loop-i l = least_rate (table_in l.t) l.cycle l.cycle (list_in l.order) ≡ least_rate (table_in l.t) l.cycle l.tick (drop l.i (list_in l.order))
