-- Invariant: the names rise exactly if those from i on do, after the name before.
use mathlib.Core.Path.{◌≡◌}
use mathlib.Core.List.{[]}
use Prim.Native.Nat.{◌≤◌, ◌-◌}
use lib.ListN.{get_or, drop}
use Rattle.names.specs.Directory.{names_of, rising, rising_from}
use Rattle.names.proofs.directory.Directory.is_rising.Given as goal

abbrev pub invariant-loop-i : goal.invariant-loop-i
invariant-loop-i l = (1 ≤ l.i) × (rising (names_of l.self.names.now l.self.ends.now) ≡ rising_from (get_or (names_of l.self.names.now l.self.ends.now) (l.i - 1) []) (drop l.i (names_of l.self.names.now l.self.ends.now)))
