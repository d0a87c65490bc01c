use mathlib.Core.Path.{◌≡◌}
use mathlib.Core.List.{[]}
use lib.ListN.{take, drop}
use Rattle.panel.specs.Panel.{tags_of, tiers_of, entry_check}
use Rattle.panel.proofs.check.check_entries.Given as goal

abbrev pub invariant-loop-i : goal.invariant-loop-i
invariant-loop-i l =
    entry_check l.count [] (tags_of l.list) (tiers_of l.list) ≡ entry_check l.count (take l.i (tags_of l.list)) (drop l.i (tags_of l.list)) (drop l.i (tiers_of l.list))
