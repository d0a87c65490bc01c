-- `times::is_clock` meets its contract: what passes the two tests is finite, and they fail for a NaN.
use Rattle.std.proofs.Common.{◌≡◌, true, false, refl}
use mathlib.Core.Bool.{false≢true}
use lib.Ieee.{Float, nan, inf, fin, le, of_bits, of_int}
use Rattle.ieee.specs.Round.{float}
use Rattle.ieee.specs.Times.{clock_ok}
use Rattle.ieee.proofs.times.is_clock.Goals as goal

not_below : (x : Float) → le (float 0) x ≡ true → le x (float 1000000000) ≡ clock_ok x
unfolding clock_ok
not_below nan p = absurd (false≢true (unfold le of_int in p))
not_below (inf true) p = absurd (false≢true (unfold le of_int in p))
not_below (inf false) p = unfold le of_int in refl
not_below (fin s m e) p = rw p

below : (x : Float) → le (float 0) x ≡ false → le (float 0) x ≡ clock_ok x
unfolding clock_ok
below nan p = p
below (inf s) p = p
below (fin s m e) p = rw p

pub returns-then-x : goal.returns-then-x
unfolding of_bits of_int
returns-then-x c = not_below c.args.x c.if-x.true

pub returns-else-x : goal.returns-else-x
unfolding of_bits of_int
returns-else-x c = below c.args.x c.if-x.false
