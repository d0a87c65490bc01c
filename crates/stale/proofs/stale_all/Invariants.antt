use Rattle.stale.specs.Stale.{tag_stale}
use Rattle.table.specs.Table.{table_in}
use Rattle.memory.proofs.LoopLaws.{mapped}
use lib.ListN.{length}
use mathlib.Core.Path.{◌≡◌}
use Rattle.stale.proofs.stale_all.Given as goal

abbrev pub invariant-loop-k : goal.invariant-loop-k
invariant-loop-k l = (length l.table ≡ length l.initial.table) × (table_in l.table ≡ mapped tag_stale l.k (table_in l.initial.table))
