-- Rules 6 and 7, and check 21: times.
use Rattle.std.specs.Prelude.{ℕ, Bool, cond, ◌&&◌, Float}
use Rattle.std.specs.Float.{binary64}
use Rattle.std.specs.Float.Ieee.{add, div, lt, le}
use Rattle.std.specs.Float.Ieee.Scale.{finite}
use Rattle.ieee.specs.Round.{float}

-- Rule 6: the rate of a group in seconds is its rate in milliseconds / 1000. So are the round lister's times.
abbrev pub rate_seconds : ℕ → Float
rate_seconds ms = div binary64 (float ms) (float 1000)

-- Rule 6: due if now + tick/2 >= last + rate, `half` being tick/2. A boundary is due in the same way, at the rate of the cycle.
abbrev pub due_at : Float → Float → Float → Float → Bool
due_at clock half last rate = le (add binary64 last rate) (add binary64 clock half)

-- Rule 6: the tick is the least of several; this is the least of two, and the first where they are equal.
abbrev pub least : Float → Float → Float
least a b = cond (lt b a) b a

-- Rule 6: a missing mark (rule 7) after now keeps its tag out of the round; a mark at now does not.
abbrev pub held_back : Float → Float → Bool
held_back mark clock = lt clock mark

-- Check 21: a clock reading is finite, not below 0 and not above 1,000,000,000.
unfoldable pub clock_ok : Float → Bool
clock_ok x = finite x && (le (float 0) x && le x (float 1000000000))
