-- Rule 10: the last period of a group.
use Rattle.std.specs.Prelude.{ℕ, Float, Option, Some, None}
use Rattle.std.specs.Float.{binary64}
use Rattle.std.specs.Float.Ieee.{mul, sub, to_bits}
use Rattle.ieee.specs.Round.{float, round1_of}
use Rattle.groups.specs.declared.group.Group.{Group}

-- Rules 4 and 10: the time between the last two rounds in milliseconds, to one decimal. A group that was read at least twice has one.
abbrev pub period_between : Option Float → Option Float → Option Float
period_between (Some last) (Some before) = Some (round1_of (mul binary64 (sub binary64 last before) (float 1000)))
period_between (Some last) None = None
period_between None before = None

abbrev pub period_of : Group → Option Float
period_of x = period_between x.last x.before

-- 1 where there is a period, and its bits; without one both are 0
abbrev pub timed : Option Float → ℕ
timed None = 0
timed (Some period) = 1

abbrev pub period_bits : Option Float → ℕ
period_bits None = 0
period_bits (Some period) = to_bits binary64 period

abbrev pub timed_cell : Group → ℕ
timed_cell x = timed (period_of x)

abbrev pub period_cell : Group → ℕ
period_cell x = period_bits (period_of x)
