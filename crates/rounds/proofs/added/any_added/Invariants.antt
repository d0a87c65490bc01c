use mathlib.Core.Path.{◌≡◌}
use lib.ListN.{drop}
use Rattle.table.specs.Table.{table_in}
use Rattle.rounds.specs.Added.{any_added}
use Rattle.rounds.proofs.added.any_added.Given as goal

abbrev pub invariant-loop-k : goal.invariant-loop-k
invariant-loop-k l = any_added (table_in l.t) ≡ any_added (drop l.k (table_in l.t))
