-- What lies between two finite floats is finite; so is a clock reading plus a time of at most a day, as a grace is, and it is not below 0.
use Rattle.std.proofs.Common.{true, false, ◌&&◌, T}
use lib.Ieee.{Float, nan, inf, fin, binary64, add, le, of_int}
use lib.Ieee.Fits.{and_l, and_r}
use lib.Ieee.Scale.{finite}
use Rattle.ieee.specs.Round.{float}
use Rattle.ieee.specs.Times.{clock_ok}
use Rattle.ieee.proofs.Order.{Le, le→}
use Rattle.ieee.proofs.Sums.{add_order}

pub finite_between : (lo x hi : Float) → T (finite lo) → T (finite hi) → T (le lo x) → T (le x hi) → T (finite x)
finite_between lo x hi L H a b = go lo x hi L H (le→ lo x a) (le→ x hi b)
  where
    go : (lo x hi : Float) → T (finite lo) → T (finite hi) → Le lo x → Le x hi → T (finite x)
    go nan x hi L H a b = absurd L
    go (inf s) x hi L H a b = absurd L
    go (fin t n d) nan hi L H a b = a
    go (fin t n d) (inf true) hi L H a b = a
    go (fin t n d) (inf false) nan L H a b = b
    go (fin t n d) (inf false) (inf s) L H a b = absurd H
    go (fin t n d) (inf false) (fin s m e) L H a b = b
    go (fin t n d) (fin s m e) hi L H a b = tt

-- what check 21 says of a reading
module _ (x : Float) (c : T (clock_ok x)) where
  bounds : T (le (float 0) x && le x (float 1000000000))
  unfolding clock_ok
  bounds = and_r (finite x) (le (float 0) x && le x (float 1000000000)) c

  pub clock_finite : T (finite x)
  unfolding clock_ok
  clock_finite = and_l (finite x) (le (float 0) x && le x (float 1000000000)) c

  pub clock_low : T (le (float 0) x)
  clock_low = and_l (le (float 0) x) (le x (float 1000000000)) bounds

  pub clock_high : T (le x (float 1000000000))
  clock_high = and_r (le (float 0) x) (le x (float 1000000000)) bounds

pub clock_sum : (x g : Float) → T (clock_ok x) → T (le (float 0) g) → T (le g (float 86400)) → T (finite (add binary64 x g)) × T (le (float 0) (add binary64 x g))
unfolding of_int
clock_sum x g c lo hi =
    let X : T (finite x) = clock_finite x c in
    let G : T (finite g) = finite_between (float 0) g (float 86400) tt tt lo hi in
    let low : T (le (float 0) (add binary64 x g)) = zero_sum (add binary64 x g) (add_order binary64 (float 0) x (float 0) g tt X tt G (clock_low x c) lo) in
    let high : T (le (add binary64 x g) (add binary64 (float 1000000000) (float 86400))) = add_order binary64 x (float 1000000000) g (float 86400) X tt G tt (clock_high x c) hi in
    (finite_between (float 0) (add binary64 x g) (add binary64 (float 1000000000) (float 86400)) tt (unfold add in tt) low high, low)
  where
    zero_sum : (y : Float) → T (le (add binary64 (float 0) (float 0)) y) → T (le (float 0) y)
    zero_sum y h = unfold add of_int in h
