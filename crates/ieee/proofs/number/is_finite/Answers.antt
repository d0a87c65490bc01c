-- `number::is_finite` meets its contract: an infinity is above or below every number.
use Rattle.std.proofs.Common.{◌≡◌, true, false, refl, true≢false}
use mathlib.Core.Bool.{false≢true}
use lib.Ieee.{Float, nan, inf, fin, lt, neg, div, of_bits}
use lib.Ieee.Scale.{finite}
use Rattle.ieee.proofs.number.is_finite.Goals as goal

below_top : (x : Float) → lt x (inf false) ≡ true → lt (inf true) x ≡ finite x
unfolding lt
below_top nan p = refl
below_top (inf true) p = refl
below_top (inf false) p = absurd (false≢true p)
below_top (fin s m e) p = refl

not_below : (x : Float) → lt x (inf false) ≡ false → lt x (inf false) ≡ finite x
unfolding lt
not_below nan p = refl
not_below (inf true) p = absurd (true≢false p)
not_below (inf false) p = refl
not_below (fin s m e) p = absurd (true≢false p)

pub returns-then-x-top : goal.returns-then-x-top
unfolding of_bits div neg
returns-then-x-top c = below_top c.args.x c.if-x-top.true

pub returns-else-x-top : goal.returns-else-x-top
unfolding of_bits div neg
returns-else-x-top c = not_below c.args.x c.if-x-top.false
