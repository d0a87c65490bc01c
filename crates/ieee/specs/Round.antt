-- Rule 4: rounding.
use Rattle.std.specs.Prelude.{ℕ, ◌*◌, max, cond, pos, Float}
use Rattle.std.specs.Float.{nan, inf, fin, binary64}
use Rattle.std.specs.Float.Ieee.{up, down, round, mul, div, lt, of_int, to_unsigned}
use Rattle.std.specs.Float.Ieee.Nearest.{closest}

-- Rules 4 and 6, and check 21: a whole number that they name, as a float: IEEE 754's rounding of it, which is exact for each of them.
abbrev pub float : ℕ → Float
float n = of_int binary64 (pos n)

-- Rule 4: rounded to whole with ties to even. This is IEEE 754's roundToIntegralTiesToEven: the whole number nearest to the magnitude, and the even
-- one of two that are equally near, with the sign kept, a zero's too. Infinities and NaN stay what they are.
unfoldable pub round_ties_even : Float → Float
round_ties_even nan = nan
round_ties_even (inf s) = inf s
round_ties_even (fin s m e) = round binary64 s (closest (m * up e) (down e)) 1

-- Rule 4: S is period / cycle, one division, rounded to whole with ties to even, at least 1; cycle 0 gives 1, as does any that is not above 0.
-- The whole number is read off as Rust's `as` does it: past 2 ^ 64 - 1 it stops there, and a NaN gives 0.
unfoldable pub slices_of : Float → Float → ℕ
slices_of period cycle = cond (lt (float 0) cycle) (max (to_unsigned 64 (round_ties_even (div binary64 period cycle))) 1) 1

-- Rule 4: round1(v) is v times 10, rounded the same way, divided by 10.
unfoldable pub round1_of : Float → Float
round1_of v = div binary64 (round_ties_even (mul binary64 v (float 10))) (float 10)
