-- Invariant: the end places are good exactly if those from there on are, after the place `at`.
use mathlib.Core.Path.{◌≡◌}
use Prim.Native.Nat.{◌≤◌}
use lib.ListN.{length, drop}
use Rattle.names.specs.Directory.{good_ends, max_name_length}
use Rattle.names.proofs.directory.good_ends.Given as goal

abbrev pub invariant-loop-place : goal.invariant-loop-place
invariant-loop-place l = (l.place-index ≤ length l.ends) × (good_ends max_name_length 0 l.ends l.size ≡ good_ends max_name_length l.at (drop l.place-index l.ends) l.size)
