-- The clock reading that two words hold: none where the first is 0, and otherwise the float whose bits the second is.
use Rattle.std.specs.Prelude.{ℕ, cond, eqb, Float, Option, Some, None}
use Rattle.std.specs.Float.{binary64}
use Rattle.std.specs.Float.Ieee.{of_bits}

abbrev pub time_from : ℕ → ℕ → Option Float
time_from known word = cond (eqb known 0) None (Some (of_bits binary64 word))
