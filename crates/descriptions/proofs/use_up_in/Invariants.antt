use mathlib.Core.Path.{◌≡◌}
use lib.ListN.{length}
use Rattle.memory.proofs.LoopLaws.{mapped}
use Rattle.table.specs.Table.{table_in}
use Rattle.descriptions.specs.Descriptions.{unwanted}
use Rattle.descriptions.proofs.use_up_in.Given as goal

abbrev pub invariant-loop-k : goal.invariant-loop-k
invariant-loop-k l = (length l.t ≡ length l.initial.t) × (table_in l.t ≡ mapped unwanted l.k (table_in l.initial.t))
