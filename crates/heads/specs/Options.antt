-- Checks 11, 12 and 13: the ranges of the options, in seconds.
use Rattle.std.specs.Prelude.{Bool, false, not, ◌&&◌, ◌||◌, cond, ℕ, Float}
use Rattle.std.specs.Float.{binary64}
use Rattle.std.specs.Float.Ieee.{round, eq, le}
use Rattle.ieee.specs.Round.{float}
use Rattle.heads.specs.declared.options.Options.{Options}

-- Check 11: cycle 0 or 0.001 to 3,600 s.
abbrev pub cycle_ok : Float → Bool
cycle_ok x = eq x (float 0) || (le (round binary64 false 1 1000) x && le x (float 3600))

-- Checks 12 and 13: tier-2 period and grace 0 to 86,400 s.
abbrev pub span_ok : Float → Bool
span_ok x = le (float 0) x && le x (float 86400)

-- The lowest that is met, or 0.
unfoldable pub options_check : Options → ℕ
options_check o = cond (not (cycle_ok o.cycle)) 11 (cond (not (span_ok o.period)) 12 (cond (not (span_ok o.grace)) 13 0))
