-- The tick of an engine is at least 0.001 s, or the cycle is 0 and every round is a boundary.
use mathlib.Core.Path.{◌≡◌, refl, ap, sym, ◌∙◌, subst}
use mathlib.Core.Bool.{Bool, true, false, not, ◌||◌, cond}
use mathlib.Core.List.{List, [], ◌∷◌}
use Prim.Native.Nat.{ℕ, ◌*◌, ◌-◌, ◌<◌}
use native.Mathlib.Nat.{zero-mul, mul-one, mul-pos}
use native.Mathlib.Omega.{arith}
use lib.Dec.{T, eqb, ltb, eqb→eq}
use lib.IntN.{ℤ, negsuc}
use lib.Pow.{pow_pos}
use lib.Ieee.{Float, nan, inf, fin, binary64, up, down, round, neg, sum, add, sub, div, lt, le, eq, of_int, unlike}
use lib.Ieee.Fits.{down_pos, and_l}
use lib.Ieee.Order.{round_mono}
use lib.Ieee.Scale.{finite, round_same}
use lib.ListN.{get_or}
use borrow.Author.Tests.{le-ltb, ltb-true}
use Rattle.std.specs.Prelude.{Option, Some, None}
use Rattle.ieee.specs.Round.{float}
use Rattle.ieee.specs.Times.{least, due_at, rate_seconds}
use Rattle.ieee.proofs.Order.{yes, Le, le→, le_trans_float, lt→le}
use Rattle.ieee.proofs.Sums.{add_order}
use Rattle.ieee.proofs.Finite.{finite_between}
use Rattle.table.specs.Tag.{fresh_tag}
use Rattle.table.specs.declared.tag.GroupRate.{GroupRate}
use Rattle.table.specs.declared.tag.Settings.{Settings}
use Rattle.table.specs.declared.tag.Tag.{Tag}
use Rattle.rounds.specs.Tick.{rate_of, least_rate, tick_of, boundary_at, due_since, rate_of_group}
use Rattle.heads.specs.declared.cycle.Cycle.{Cycle}

-- 0.001 s, the least cycle but 0 and the least rate
abbrev pub ms : Float
ms = round binary64 false 1 1000

-- ---- floats

-- nothing is left of a finite float
pub self_zero : (x : Float) → T (finite x) → sub binary64 x x ≡ float 0
unfolding sub add neg sum of_int
self_zero nan h = absurd h
self_zero (inf s) h = absurd h
self_zero (fin s m e) h = go s (m * up e * down e) (down e * down e) (mul-pos (down_pos e) (down_pos e))
  where
    none : (a c : ℕ) → 0 < c → round binary64 false (a - a) c ≡ round binary64 false 0 1
    none a c p = round_same binary64 false (a - a) c 0 1 p (pow_pos 0) (let z : a - a ≡ 0 = omega arith in rw (z, zero-mul 1, zero-mul c) refl)

    go : (s : Bool) (a c : ℕ) → 0 < c → sum binary64 s a (not s) a c ≡ round binary64 false 0 1
    go true a c p = rw (le-ltb a a (omega arith)) (none a c p)
    go false a c p = rw (le-ltb a a (omega arith)) (none a c p)

-- a float of at least 1, divided by 1000
over_1000 : (x : Float) → T (le (float 1) x) → T (le ms (div binary64 x (float 1000)))
unfolding of_int div round
over_1000 x h = go x (le→ (float 1) x h)
  where
    go : (x : Float) → Le (float 1) x → T (le ms (div binary64 x (float 1000)))
    go nan h = absurd h
    go (inf true) h = absurd h
    go (inf false) h = unfold le lt in tt
    go (fin true m e) h = absurd (omega (arith, h.0, down_pos e))
    go (fin false m e) h = round_mono binary64 1 1000 (m * up e * 1) (125 * 8 * down e) (omega arith) (omega (arith, down_pos e)) (omega (arith, h))

-- Check 14: a rate of 1 ms or more
pub rate_least : (r : ℕ) → 0 < r → T (le ms (rate_seconds r))
unfolding of_int
rate_least r h = over_1000 (float r) (round_mono binary64 1 1 r 1 (pow_pos 0) (pow_pos 0) (omega arith))

-- a test that is met
met : (b : Bool) → T b → b ≡ true
met true h = refl
met false h = absurd h

-- a test that is not met, from what would follow
refuted : (b : Bool) → (T b → ⊥) → b ≡ false
refuted true f = absurd (f tt)
refuted false f = refl

-- a reading, if there was one, is finite and not ahead of the clock
abbrev pub Past : Float → Option Float → Type 0
Past clock None = Unit {0}
Past clock (Some last) = T (finite last) × T (le last clock)

-- nor then of a later one
pub past_later : (a b : Float) → T (le a b) → (last : Option Float) → Past a last → Past b last
past_later a b h None p = tt
past_later a b h (Some last) p = (p.0, le_trans_float last a b p.1 h)

-- ---- the tick

-- a setting whose rate, if it has one, is 1 ms or more
abbrev pub is_rated_group : Option GroupRate → Bool
is_rated_group None = true
is_rated_group (Some g) = ltb 0 g.rate

abbrev pub is_rated : Settings → Bool
is_rated s = is_rated_group s.group

-- every tag of a table has such a setting
abbrev pub Rated : List Tag → Type 0
Rated tags = (k : ℕ) → is_rated (get_or tags k fresh_tag).settings ≡ true

-- the rate of such a setting
rate_low : (s : Settings) (cycle : Float) → is_rated s ≡ true → T (le ms cycle) → T (le ms (rate_of s cycle))
rate_low s cycle r c = go s.group r
  where
    go : (g : Option GroupRate) → is_rated_group g ≡ true → T (le ms (rate_of_group g cycle))
    go None e = c
    go (Some g) e = rate_least g.rate (ltb-true 0 g.rate e)

module _ (tags : List Tag) (r : Rated tags) (cycle : Float) (c : T (le ms cycle)) where
  -- the lesser of two
  least_low : (a b : Float) → T (le ms a) → T (le ms b) → T (le ms (least a b))
  least_low a b p q = go (lt b a)
    where
      go : (t : Bool) → T (le ms (cond t b a))
      go true = q
      go false = p

  -- the tick is at least 0.001 s
  pub tick_low : (order : List ℕ) (tick : Float) → T (le ms tick) → T (le ms (least_rate tags cycle tick order))
  unfolding least_rate
  tick_low [] tick h = h
  tick_low (k ∷ ks) tick h = tick_low ks _ (go (eqb (get_or tags k fresh_tag).tier 1))
    where
      go : (b : Bool) → T (le ms (cond b (least tick (rate_of (get_or tags k fresh_tag).settings cycle)) tick))
      go true = least_low tick (rate_of (get_or tags k fresh_tag).settings cycle) h (rate_low (get_or tags k fresh_tag).settings cycle (r k) c)
      go false = h

-- the tick is at most the cycle
pub tick_high : (tags : List Tag) (cycle : Float) (order : List ℕ) (tick hi : Float) → T (le tick hi) → T (le (least_rate tags cycle tick order) hi)
unfolding least_rate
tick_high tags cycle [] tick hi h = h
tick_high tags cycle (k ∷ ks) tick hi h = tick_high tags cycle ks _ hi (go (eqb (get_or tags k fresh_tag).tier 1))
  where
    rate : Float
    rate = rate_of (get_or tags k fresh_tag).settings cycle

    lesser : (b : Bool) → lt rate tick ≡ b → T (le (cond b rate tick) hi)
    lesser true e = le_trans_float rate tick hi (lt→le rate tick (yes e)) h
    lesser false e = h

    go : (b : Bool) → T (le (cond b (least tick rate) tick) hi)
    go true = lesser (lt rate tick) refl
    go false = h

-- 0.0001 s, within which a wait ends
abbrev tenth : Float
tenth = round binary64 false 1 10000

-- 0.001 as a float, and less 0
ms_is : ms ≡ fin false 1152921504606847 (negsuc 59)
unfolding round
ms_is = refl

less_zero : add binary64 (fin false 1152921504606847 (negsuc 59)) (neg (float 0)) ≡ fin false 1152921504606847 (negsuc 59)
unfolding add neg sum round of_int
less_zero = refl

ms_less_zero : add binary64 ms (neg (float 0)) ≡ ms
ms_less_zero = ap (λ (x : Float). add binary64 x (neg (float 0))) ms_is ∙ less_zero ∙ sym ms_is

-- with nothing elapsed, a tick of 0.001 s or more is waited for
module _ (tick : Float) (lo : T (le ms tick)) (hi : T (le tick (float 3600))) where
  -- the tick is finite
  pub tick_finite : T (finite tick)
  unfolding round of_int
  tick_finite = finite_between ms tick (float 3600) tt tt lo hi

  -- nothing elapsed is not more than the tick
  pub not_negative : le (float 0) tick ≡ true
  unfolding round of_int
  not_negative = met (le (float 0) tick) (le_trans_float (float 0) ms tick (unfold le lt in tt) lo)

  -- what is left of the tick is 0.001 s or more
  left_low : T (le ms (sub binary64 tick (float 0)))
  unfolding sub
  left_low =
      subst (λ (x : Float). T (le x (sub binary64 tick (float 0)))) ms_less_zero
      (add_order binary64 ms tick (neg (float 0)) (neg (float 0)) (unfold round in tt) tick_finite (unfold neg of_int round in tt) (unfold neg of_int round in tt) lo
      (unfold neg le lt eq of_int round in tt))

  -- so it is waited for
  pub waits : le (sub binary64 tick (float 0)) tenth ≡ false
  unfolding round of_int
  waits = refuted (le (sub binary64 tick (float 0)) tenth) (λ h. unfold le lt eq in le_trans_float ms (sub binary64 tick (float 0)) tenth left_low h)

-- ---- cycle 0

module _ (c : Float) (z : T (eq c (float 0))) where
  -- it is not above 0
  zero_low : T (le c (float 0))
  unfolding le
  zero_low = or_right (lt c (float 0)) (eq c (float 0)) z
    where
      or_right : (a b : Bool) → T b → T (a || b)
      or_right true b h = tt
      or_right false b h = h

  -- its magnitude
  nothing : (s : Bool) (m : ℕ) (e : ℤ) → c ≡ fin s m e → m * up e ≡ 0
  unfolding eq of_int round
  nothing s m e q = go s (subst (λ (x : Float). T (eq x (float 0))) q z)
    where
      go : (s : Bool) → T (eq (fin s m e) (float 0)) → m * up e ≡ 0
      go true h = sym (mul-one (m * up e)) ∙ eqb→eq (m * up e * 1) (0 * 1 * down e) (and_l (eqb (m * up e * 1) (0 * 1 * down e)) (eqb (m * up e * 1) 0) h) ∙ zero-mul (down e)
      go false h = sym (mul-one (m * up e)) ∙ eqb→eq (m * up e * 1) (0 * 1 * down e) (and_l (eqb (m * up e * 1) (0 * 1 * down e)) true h) ∙ zero-mul (down e)

  -- it is finite
  pub zero_finite : T (finite c)
  unfolding eq of_int
  zero_finite = go c refl
    where
      go : (x : Float) → c ≡ x → T (finite x)
      go nan q = subst (λ (x : Float). T (eq x (float 0))) q z
      go (inf s) q = subst (λ (x : Float). T (eq x (float 0))) q z
      go (fin s m e) q = tt

  -- no rate is below it
  not_below : (x : Float) → T (le ms x) → lt x c ≡ false
  unfolding round of_int
  not_below x h = refuted (lt x c) (λ l. unfold le lt eq in le_trans_float ms c (float 0) (le_trans_float ms x c h (lt→le x c l)) zero_low)

  -- nor is it below itself
  not_below_self : lt c c ≡ false
  unfolding lt
  not_below_self = go c refl
    where
      go : (x : Float) → c ≡ x → lt x x ≡ false
      go nan q = refl
      go (inf true) q = refl
      go (inf false) q = refl
      go (fin true m e) q = le-ltb (m * up e * down e) (m * up e * down e) (omega arith)
      go (fin false m e) q = le-ltb (m * up e * down e) (m * up e * down e) (omega arith)

  -- its half
  abbrev half : Float
  half = div binary64 c (float 2)

  half_zero : (s : Bool) × (half ≡ round binary64 s 0 1)
  unfolding div of_int
  half_zero = go c refl zero_finite
    where
      go : (x : Float) → c ≡ x → T (finite x) → (s : Bool) × (div binary64 x (float 2) ≡ round binary64 s 0 1)
      go nan q f = absurd f
      go (inf s) q f = absurd f
      go (fin s m e) q f = (
        unlike s false,
        round_same binary64 (unlike s false) (m * up e * 1) (1 * 2 * down e) 0 1 (omega (arith, down_pos e)) (pow_pos 0)
            (let n : m * up e ≡ 0 = nothing s m e q in rw n (zero-mul 1 ∙ sym (zero-mul (1 * 2 * down e)))),
      )

  half_finite : T (finite half)
  half_finite = subst (λ (x : Float). T (finite x)) (sym half_zero.1) (go half_zero.0)
    where
      go : (s : Bool) → T (finite (round binary64 s 0 1))
      go true = unfold round in tt
      go false = unfold round in tt

  half_high : T (le c half)
  half_high = subst (λ (x : Float). T (le c x)) (sym half_zero.1) (le_trans_float c (float 0) (round binary64 half_zero.0 0 1) zero_low (go half_zero.0))
    where
      go : (s : Bool) → T (le (float 0) (round binary64 s 0 1))
      go true = unfold le lt eq round of_int in tt
      go false = unfold le lt eq round of_int in tt

  -- the tick is the cycle
  pub tick_zero : (tags : List Tag) → Rated tags → (order : List ℕ) → least_rate tags c c order ≡ c
  unfolding least_rate
  tick_zero tags r [] = refl
  tick_zero tags r (k ∷ ks) = ap (λ (t : Float). least_rate tags c t ks) (go (eqb (get_or tags k fresh_tag).tier 1)) ∙ tick_zero tags r ks
    where
      s : Settings
      s = (get_or tags k fresh_tag).settings

      not_less : (g : Option GroupRate) → is_rated_group g ≡ true → lt (rate_of_group g c) c ≡ false
      not_less None e = not_below_self
      not_less (Some g) e = not_below (rate_seconds g.rate) (rate_least g.rate (ltb-true 0 g.rate e))

      go : (b : Bool) → cond b (least c (rate_of s c)) c ≡ c
      go true = rw (not_less s.group (r k)) refl
      go false = refl

  -- every round is a boundary
  pub boundary_zero : (tags : List Tag) → Rated tags → (order : List ℕ) (x : Cycle) (clock : Float) → T (finite clock) → Past clock x.last
      → boundary_at x clock (div binary64 (tick_of tags order c) (float 2)) c ≡ true
  boundary_zero tags r order x clock f h = ap (λ (t : Float). boundary_at x clock (div binary64 t (float 2)) c) (tick_zero tags r order) ∙ go x.last h
    where
      go : (l : Option Float) → Past clock l → due_since l clock half c ≡ true
      go None p = refl
      go (Some last) p = met (due_at clock half last c) (add_order binary64 last clock c half p.0 f zero_finite half_finite p.1 half_high)
