-- Invariant: the bytes from the start are digits exactly if those from i on are.
use mathlib.Core.Path.{◌≡◌}
use lib.ListN.{drop}
use Rattle.names.specs.Bits.{all_digits}
use Rattle.names.proofs.bits.digits_from.Given as goal

abbrev pub invariant-loop-i : goal.invariant-loop-i
invariant-loop-i l = all_digits (drop l.from l.s) ≡ all_digits (drop l.i l.s)
