use mathlib.Core.Path.{◌≡◌}
use mathlib.Core.List.{◌++◌}
use Prim.Native.Nat.{min}
use lib.ListN.{length, take}
use Rattle.lists.specs.Keep.{keep}
use Rattle.tags.specs.Lists.{list_in, room}
use Rattle.table.specs.Table.{table_in}
use Rattle.rounds.specs.Added.{is_added}
use Rattle.lists.specs.Keep.{up_to}
use Rattle.rounds.proofs.added.list_added.Given as goal

abbrev pub invariant-loop-k : goal.invariant-loop-k
invariant-loop-k l =
    (l.n ≡ min l.rows 65536) × ((length l.list ≡ length l.initial.list) × (list_in l.list ≡ take (room l.initial.list) (list_in l.initial.list ++ keep (is_added (table_in l.t) (list_in l.initial.list)) (up_to l.k))))
