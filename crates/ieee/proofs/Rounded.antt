-- `round`, with a sign: it keeps the sign and the order of the fractions that it rounds, and a value that the format holds it leaves as it is.
use Rattle.std.proofs.Common.{◌≡◌, ℕ, zero, suc, ◌+◌, ◌-◌, ◌*◌, ◌/◌, ◌%◌, ◌^◌, ◌<◌, ◌≤◌, Bool, true, false, cond, not, ◌&&◌, T, eqb, ltb, leb, ℤ, pos, negsuc, sym, refl, ap, ◌∙◌, subst, true≢false, mul_assoc, mul_comm, lt_of_mul-lt-mul_right, mul-lt-mul_of_pos_right, one-mul, zero-mul, mul-one, mul_right_comm, not-le_of_lt, ltb→lt, leb→le, nltb→le, pow_pos, pow-add}
use mathlib.Core.Bool.{false≢true}
use lib.Pow.{pow-lt}
use lib.Ieee.{Float, nan, inf, fin, Format, binary32, binary64, prec, emax, low, up, down, odd, units, round, neg, size, top, hid, to_bits, of_bits, fits}
use lib.Ieee.Fits.{down_pos, round_is, round-fits, and_l, and_r}
use lib.Ieee.Order.{drop, kept, round_mono}
use lib.Ieee.Scale.{round_same}
use lib.Ieee.Exact.{HasValue, round_exact}
use lib.Ieee.Nearest.{div_same}
use lib.Ieee.Digits.{back}
use lib.Ieee.Bits.{of_bits-to_bits}
use Rattle.ieee.proofs.Order.{SLe, Le, le→, zero_of}

-- ---- the sign
abbrev pub Signed : Float → Bool → Type 0
Signed nan s = ⊥
Signed (inf t) s = t ≡ s
Signed (fin t m e) s = t ≡ s

odd_signed : (d : ℕ) (s : Bool) (q k l : ℕ) → Signed (odd d s q k l) s
unfolding odd
odd_signed d s zero k l = refl
odd_signed d s (suc q) k l = refl

units_signed : (f : Format) (s : Bool) (q k : ℕ) → Signed (units f s q k) s
unfolding units
units_signed f s q k = go (ltb (q * 2 ^ k) (2 ^ (low f + suc (emax f))))
  where
    go : (b : Bool) → Signed (cond b (odd (suc (prec f)) s q k (low f)) (inf s)) s
    go true = odd_signed (suc (prec f)) s q k (low f)
    go false = refl

pub round_signed : (f : Format) (s : Bool) (a c : ℕ) → Signed (round f s a c) s
round_signed f s a c = subst (λ (x : Float). Signed x s) (sym (round_is f s a c)) (units_signed f s (kept (prec f) (a * 2 ^ low f) c) (drop (prec f) (a * 2 ^ low f) c))

minus_plus : (x y : Float) → Signed x true → Signed y false → Le x y
minus_plus nan y p q = p
minus_plus (inf true) nan p q = q
minus_plus (inf true) (inf t) p q = tt
minus_plus (inf true) (fin t n d) p q = tt
minus_plus (inf false) y p q = absurd (false≢true p)
minus_plus (fin s m e) nan p q = q
minus_plus (fin s m e) (inf true) p q = absurd (true≢false q)
minus_plus (fin s m e) (inf false) p q = tt
minus_plus (fin false m e) (fin t n d) p q = absurd (false≢true p)
minus_plus (fin true m e) (fin true n d) p q = absurd (true≢false q)
minus_plus (fin true m e) (fin false n d) p q = tt

odd_neg : (d q k l : ℕ) → neg (odd d false q k l) ≡ odd d true q k l
unfolding odd neg
odd_neg d zero k l = refl
odd_neg d (suc q) k l = refl

units_neg : (f : Format) (q k : ℕ) → neg (units f false q k) ≡ units f true q k
unfolding units
units_neg f q k = go (ltb (q * 2 ^ k) (2 ^ (low f + suc (emax f))))
  where
    go : (b : Bool) → neg (cond b (odd (suc (prec f)) false q k (low f)) (inf false)) ≡ cond b (odd (suc (prec f)) true q k (low f)) (inf true)
    go true = odd_neg (suc (prec f)) q k (low f)
    go false = unfold neg in refl

pub round_neg : (f : Format) (a c : ℕ) → neg (round f false a c) ≡ round f true a c
round_neg f a c = ap neg (round_is f false a c) ∙ units_neg f (kept (prec f) (a * 2 ^ low f) c) (drop (prec f) (a * 2 ^ low f) c) ∙ sym (round_is f true a c)

sneg : (s : Bool) (a : ℕ) (t : Bool) (b : ℕ) → SLe s a t b → SLe (not t) b (not s) a
sneg false a false b h = h
sneg false a true b h = (h.1, h.0)
sneg true a false b h = tt
sneg true a true b h = h

Le_neg : (x y : Float) → Le x y → Le (neg y) (neg x)
unfolding neg
Le_neg nan y h = absurd h
Le_neg (inf true) nan h = h
Le_neg (inf true) (inf true) h = tt
Le_neg (inf true) (inf false) h = tt
Le_neg (inf true) (fin t n d) h = tt
Le_neg (inf false) nan h = h
Le_neg (inf false) (inf true) h = h
Le_neg (inf false) (inf false) h = tt
Le_neg (inf false) (fin t n d) h = absurd h
Le_neg (fin s m e) nan h = h
Le_neg (fin s m e) (inf true) h = h
Le_neg (fin s m e) (inf false) h = tt
Le_neg (fin s m e) (fin t n d) h = sneg s (m * up e * down d) t (n * up d * down e) h

zeros : (f : Format) → Le (round f false 0 1) (round f true 0 1)
unfolding round
zeros binary32 = (refl, refl)
zeros binary64 = (refl, refl)

zero_over : (f : Format) (s : Bool) (a c u : ℕ) → 0 < c → 0 < u → a * u ≡ 0 → round f s a c ≡ round f s 0 1
zero_over f s a c u C U e = round_same f s a c 0 1 C (pow_pos 0) (ap (λ (z : ℕ). z * 1) (zero_of a u U e) ∙ sym (zero-mul c))

-- ±a / c ≤ ±b / d, rounded
pub round-order : (f : Format) (s : Bool) (a c : ℕ) (t : Bool) (b d : ℕ) → 0 < c → 0 < d → SLe s (a * d) t (b * c) → Le (round f s a c) (round f t b d)
round-order f false a c false b d C D h = le→ (round f false a c) (round f false b d) (round_mono f a c b d C D h)
round-order f false a c true b d C D h =
    subst (λ (x : Float). Le x (round f true b d)) (sym (zero_over f false a c d C D h.0))
    (subst (λ (y : Float). Le (round f false 0 1) y) (sym (zero_over f true b d c D C h.1)) (zeros f))
round-order f true a c false b d C D h = minus_plus (round f true a c) (round f false b d) (round_signed f true a c) (round_signed f false b d)
round-order f true a c true b d C D h =
    subst (λ (x : Float). Le x (round f true b d)) (round_neg f a c)
    (subst (λ (y : Float). Le (neg (round f false a c)) y) (round_neg f b d)
    (Le_neg (round f false b d) (round f false a c) (le→ (round f false b d) (round f false a c) (round_mono f b d a c D C h))))

-- ---- a value is written in one way: its bits tell its sign and its size
bits_at : Format → Bool → ℕ → ℕ
bits_at f s n =
    let k = size n - prec f in
    cond s (top f) 0 + k * hid f + n / 2 ^ k

bits_are : (f : Format) (x : Float) (s : Bool) (a c : ℕ) → 0 < c → HasValue x s a c → to_bits f x ≡ bits_at f s (a * 2 ^ low f / c)
unfolding to_bits bits_at
bits_are f nan s a c C v = absurd v
bits_are f (inf t) s a c C v = absurd v
bits_are f (fin t m e) s a c C v =
    ap (λ (b : Bool). bits_at f b (m * up e * 2 ^ low f / down e)) v.0
    ∙ ap (bits_at f s) (div_same (m * up e * 2 ^ low f) (down e) (a * 2 ^ low f) c (down_pos e) C (mul_right_comm (m * up e) (2 ^ low f) c ∙ ap (λ (z : ℕ). z * 2 ^ low f) v.1 ∙ mul_right_comm a (down e) (2 ^ low f)))

unique : (f : Format) (x y : Float) (s : Bool) (a c : ℕ) → 0 < c → T (fits f x) → T (fits f y) → HasValue x s a c → HasValue y s a c → x ≡ y
unique f x y s a c C X Y v w = sym (of_bits-to_bits f x X) ∙ ap (of_bits f) (bits_are f x s a c C v ∙ sym (bits_are f y s a c C w)) ∙ of_bits-to_bits f y Y

-- ---- what a format holds, `round` leaves as it is
pow_back : (i l : ℕ) → 2 ^ i ≤ 2 ^ l → i ≤ l
pow_back i l h = go (ltb l i) (ltb→lt l i) (nltb→le l i)
  where
    go : (b : Bool) → (T b → l < i) → (T (not b) → i ≤ l) → i ≤ l
    go true f g = absurd (not-le_of_lt (pow-lt (f tt)) h)
    go false f g = g tt

lower : (e : ℤ) (l : ℕ) → down e ≤ 2 ^ l → (j : ℕ) × (up e * 2 ^ l ≡ 2 ^ j * down e)
lower (pos k) l h = (k + l, sym (pow-add 2 k l) ∙ sym (mul-one (2 ^ (k + l))))
lower (negsuc k) l h = (l - suc k, one-mul (2 ^ l) ∙ ap (λ (z : ℕ). 2 ^ z) (sym (back l (suc k) (pow_back (suc k) l h))) ∙ pow-add 2 (l - suc k) (suc k))

-- what `fits` says of a finite value that is not zero
pub record Held (f : Format) (m : ℕ) (e : ℤ) : Type 0 where
  pub digits : m < 2 ^ prec f
  pub fine : down e ≤ 2 ^ low f
  pub range : m * up e < 2 ^ suc (emax f) * down e

pub held : (f : Format) (s : Bool) (m : ℕ) (e : ℤ) → T (fits f (fin s (suc m) e)) → Held f (suc m) e
unfolding fits
held f s m e t =
    let a : Bool = eqb (suc m % 2) 1 in
    let b : Bool = ltb (suc m) (2 ^ prec f) in
    let c : Bool = leb (down e) (2 ^ low f) in
    let d : Bool = ltb (suc m * up e) (2 ^ suc (emax f) * down e) in
    record {
      digits = ltb→lt (suc m) (2 ^ prec f) (and_r a b (and_l (a && b) c (and_l (a && b && c) d t)));
      fine = leb→le (down e) (2 ^ low f) (and_r (a && b) c (and_l (a && b && c) d t));
      range = ltb→lt (suc m * up e) (2 ^ suc (emax f) * down e) (and_r (a && b && c) d t);
    }

own_value : (f : Format) (s : Bool) (m : ℕ) (e : ℤ) → Held f m e → HasValue (round f s (m * up e) (down e)) s (m * up e) (down e)
own_value f s m e h =
    let j = lower e (low f) h.fine in
    let l = low f in
    let is : m * up e * 2 ^ l ≡ m * 2 ^ j.0 * down e = mul_assoc m (up e) (2 ^ l) ∙ ap (λ (z : ℕ). m * z) j.1 ∙ sym (mul_assoc m (2 ^ j.0) (down e)) in
    let under : m * 2 ^ j.0 * down e < 2 ^ (l + suc (emax f)) * down e =
    subst (λ (z : ℕ). z < 2 ^ (l + suc (emax f)) * down e) is
    (subst (λ (z : ℕ). m * up e * 2 ^ l < z)
    (mul_right_comm (2 ^ suc (emax f)) (down e) (2 ^ l) ∙ ap (λ (z : ℕ). z * down e) (mul_comm (2 ^ suc (emax f)) (2 ^ l) ∙ sym (pow-add 2 l (suc (emax f)))))
    (mul-lt-mul_of_pos_right h.range (pow_pos l))) in
    round_exact f s (m * up e) (down e) m j.0 (down_pos e) h.digits (lt_of_mul-lt-mul_right (down e) under) is

zero_value : (f : Format) (s : Bool) (e : ℤ) → HasValue (round f s (0 * up e) (down e)) s (0 * up e) (down e)
zero_value f s e =
    round_exact f s (0 * up e) (down e) 0 0 (down_pos e) (pow_pos (prec f)) (pow_pos (low f + suc (emax f)))
    (ap (λ (z : ℕ). z * 2 ^ low f) (zero-mul (up e)) ∙ zero-mul (2 ^ low f) ∙ sym (zero-mul (down e)))

pub round_own : (f : Format) (s : Bool) (m : ℕ) (e : ℤ) → T (fits f (fin s m e)) → round f s (m * up e) (down e) ≡ fin s m e
round_own f s zero e t = unique f (round f s (0 * up e) (down e)) (fin s 0 e) s (0 * up e) (down e) (down_pos e) (round-fits f s (0 * up e) (down e)) t (zero_value f s e) (refl, refl)
round_own f s (suc m) e t = unique f (round f s (suc m * up e) (down e)) (fin s (suc m) e) s (suc m * up e) (down e) (down_pos e) (round-fits f s (suc m * up e) (down e)) t (own_value f s (suc m) e (held f s m e t)) (refl, refl)
