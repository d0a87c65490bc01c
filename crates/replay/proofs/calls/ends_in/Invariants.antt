-- The ends so far are the numbers before the one at the index.
use Rattle.std.proofs.Common.{◌≡◌, map, take}
use Rattle.std.specs.Int.{w32, from_le_bytes}
use Rattle.replay.proofs.calls.ends_in.Given as goal

abbrev pub invariant-loop-number : goal.invariant-loop-number
invariant-loop-number l = l.ends.items ≡ map (from_le_bytes w32) (take l.number-index l.numbers)
