-- Invariant: the bytes are good exactly if those from there on are.
use mathlib.Core.Path.{◌≡◌}
use Prim.Native.Nat.{◌≤◌}
use lib.ListN.{length, drop}
use Rattle.names.specs.Directory.{good_bytes}
use Rattle.names.proofs.directory.good_bytes.Given as goal

abbrev pub invariant-loop-b : goal.invariant-loop-b
invariant-loop-b l = (l.b-index ≤ length l.names) × (good_bytes l.names ≡ good_bytes (drop l.b-index l.names))
