-- Rule 3: the deadband.
use Rattle.std.specs.Prelude.{Bool, false, Float}
use Rattle.std.specs.Float.{nan, inf, fin, binary64}
use Rattle.std.specs.Float.Ieee.{sub, lt}

-- Rule 3: |x|, IEEE 754's abs: the sign taken off, a zero's too.
unfoldable pub magnitude : Float → Float
magnitude nan = nan
magnitude (inf s) = inf false
magnitude (fin s m e) = fin false m e

-- Rule 3: |value - published| < band, with one subtraction. Where one of the three is a NaN it is false.
unfoldable pub within : Float → Float → Float → Bool
within published value band = lt (magnitude (sub binary64 value published)) band
