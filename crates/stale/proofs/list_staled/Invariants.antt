use Rattle.stale.specs.Stale.{is_staled}
use Rattle.table.specs.Table.{table_in}
use Rattle.table.specs.Tag.{fresh_tag}
use Rattle.tags.specs.Lists.{list_in, room}
use Rattle.lists.specs.Keep.{keep, up_to}
use lib.ListN.{length, get_or, take}
use Prim.Native.Nat.{ℕ, min}
use mathlib.Core.List.{List}
use mathlib.Core.Bool.{Bool}
use mathlib.Core.Path.{◌≡◌}
use Rattle.stale.proofs.list_staled.Given as goal

-- the test that the loop collects by
abbrev test : List ℕ → ℕ → Bool
test t k = is_staled (get_or (table_in t) k fresh_tag)

abbrev pub invariant-loop-k : goal.invariant-loop-k
invariant-loop-k l =
    (l.n ≡ min l.rows 65536) × ((length l.changes ≡ length l.initial.changes) × (list_in l.changes ≡ take (room l.initial.changes) (keep (test l.table) (take l.k (up_to l.n)))))
