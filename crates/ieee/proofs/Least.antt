-- The lesser of two floats is at most each of them.
use Rattle.std.proofs.Common.{Bool, true, false, cond, not, T}
use lib.Ieee.{Float, lt, le, is_nan}
use Rattle.ieee.specs.Times.{least}
use Rattle.ieee.proofs.Order.{le_refl_float, lt→le, not-lt→le}

module _ (a b : Float) (A : T (not (is_nan a))) (B : T (not (is_nan b))) where
  pub least_le_first : T (le (least a b) a)
  least_le_first = go (lt b a) (lt→le b a)
    where
      go : (t : Bool) → (T t → T (le b a)) → T (le (cond t b a) a)
      go true f = f tt
      go false f = le_refl_float a A

  pub least_le_second : T (le (least a b) b)
  least_le_second = go (lt b a) (not-lt→le b a B A)
    where
      go : (t : Bool) → (T (not t) → T (le a b)) → T (le (cond t b a) b)
      go true f = le_refl_float b B
      go false f = f tt
