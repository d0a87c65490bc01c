-- The times of a listing's calls.
use Rattle.std.specs.Prelude.{ℕ, ◌&&◌, not, cond, Float, Option, Some, None}
use Rattle.std.specs.Float.{binary64}
use Rattle.std.specs.Float.Ieee.{lt, of_bits}
use Rattle.ieee.specs.Times.{rate_seconds, clock_ok}
use Rattle.heads.specs.declared.options.Options.{Options}
use Rattle.stream.specs.declared.state.Calls.{Calls}

-- before the first call; the bits of 0.0 are all 0
abbrev pub new : Options → Calls
new options = record { options = options; cycle = record { last = None; index = 0 }; clock = of_bits binary64 0 }

-- the time of a call at so many milliseconds, or none: it passes check 21, and does not go back
abbrev pub time : Calls → ℕ → Option Float
time calls ms = cond (clock_ok (rate_seconds ms) && not (lt (rate_seconds ms) calls.clock)) (Some (rate_seconds ms)) None
