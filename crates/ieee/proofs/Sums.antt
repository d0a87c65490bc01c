-- Sums of floats keep the order, through signs, subnormal results and overflow; and x ≤ x + g where g is not below 0.
use Rattle.std.proofs.Common.{◌≡◌, ℕ, ◌+◌, ◌-◌, ◌*◌, ◌<◌, ◌≤◌, Bool, true, false, cond, not, ◌&&◌, T, ltb, sym, refl, ap, ◌∙◌, subst, mul-le-mul_right, mul_assoc, mul_comm, add-mul, mul-pos, zero-mul, mul-one, arith, ltb→lt, nltb→le}
use native.Mathlib.Nat.{mul-mul-mul_comm}
use mathlib.Core.Bool.{beq}
use lib.Ieee.{Float, nan, inf, fin, Format, up, down, round, sum, add, le, fits, of_int}
use lib.Ieee.Fits.{down_pos}
use lib.Ieee.Scale.{finite}
use Rattle.ieee.specs.Round.{float}
use Rattle.ieee.proofs.Order.{SLe, Le, le→, →le}
use Rattle.ieee.proofs.Rounded.{round-order, round_own}

-- ---- a signed number by what is above zero and what is below
abbrev pp : Bool → ℕ → ℕ
pp false a = a
pp true a = 0

abbrev nn : Bool → ℕ → ℕ
nn false a = 0
nn true a = a

both_zero : (a b : ℕ) → a + b ≤ 0 → (a ≡ 0) × (b ≡ 0)
both_zero a b h = (omega arith, omega arith)

none : (a b : ℕ) → a ≡ 0 → b ≡ 0 → a + b ≤ 0 + 0
none a b e f = omega arith

sle→pn : (s : Bool) (a : ℕ) (t : Bool) (b : ℕ) → SLe s a t b → pp s a + nn t b ≤ pp t b + nn s a
sle→pn false a false b h = omega arith
sle→pn false a true b h = none a b h.0 h.1
sle→pn true a false b h = omega arith
sle→pn true a true b h = omega arith

pn→sle : (s : Bool) (a : ℕ) (t : Bool) (b : ℕ) → pp s a + nn t b ≤ pp t b + nn s a → SLe s a t b
pn→sle false a false b h = omega arith
pn→sle false a true b h = both_zero a b h
pn→sle true a false b h = tt
pn→sle true a true b h = omega arith

pp_mul : (s : Bool) (a k : ℕ) → pp s (a * k) ≡ pp s a * k
pp_mul false a k = refl
pp_mul true a k = sym (zero-mul k)

nn_mul : (s : Bool) (a k : ℕ) → nn s (a * k) ≡ nn s a * k
nn_mul false a k = sym (zero-mul k)
nn_mul true a k = refl

-- ---- `sum`: the signed number ±a + ±b, over c
abbrev σ : Bool → ℕ → Bool → ℕ → Bool
σ s a v b = cond (beq s v) s (cond (ltb a b) v (s && ltb b a))

abbrev μ : Bool → ℕ → Bool → ℕ → ℕ
μ s a v b = cond (beq s v) (a + b) (cond (ltb a b) (b - a) (a - b))

sum_is : (f : Format) (s : Bool) (a : ℕ) (v : Bool) (b c : ℕ) → sum f s a v b c ≡ round f (σ s a v b) (μ s a v b) c
unfolding sum
sum_is f s a v b c = go (beq s v) (ltb a b)
  where
    go : (p q : Bool) → cond p (round f s (a + b) c) (cond q (round f v (b - a) c) (round f (s && ltb b a) (a - b) c))
        ≡ round f (cond p s (cond q v (s && ltb b a))) (cond p (a + b) (cond q (b - a) (a - b))) c
    go true q = refl
    go false true = refl
    go false false = refl

-- its value
adds : (s : Bool) (a : ℕ) (v : Bool) (b : ℕ) → pp (σ s a v b) (μ s a v b) + (nn s a + nn v b) ≡ nn (σ s a v b) (μ s a v b) + (pp s a + pp v b)
adds false a false b = omega arith
adds true a true b = omega arith
adds false a true b = go (ltb a b) (ltb→lt a b) (nltb→le a b)
  where
    go : (q : Bool) → (T q → a < b) → (T (not q) → b ≤ a) → pp (cond q true false) (cond q (b - a) (a - b)) + (0 + b) ≡ nn (cond q true false) (cond q (b - a) (a - b)) + (a + 0)
    go true f g = let h : a < b = f tt in omega arith
    go false f g = let h : b ≤ a = g tt in omega arith
adds true a false b = go (ltb a b) (ltb→lt a b) (nltb→le a b) (ltb b a) (nltb→le b a)
  where
    go : (q : Bool) → (T q → a < b) → (T (not q) → b ≤ a) → (r : Bool) → (T (not r) → a ≤ b)
        → pp (cond q false r) (cond q (b - a) (a - b)) + (a + 0) ≡ nn (cond q false r) (cond q (b - a) (a - b)) + (0 + b)
    go true f g r k = let h : a < b = f tt in omega arith
    go false f g true k = let h : b ≤ a = g tt in omega arith
    go false f g false k =
        let h : b ≤ a = g tt in
        let j : a ≤ b = k tt in
        omega arith

-- the same, times k
adds_over : (s : Bool) (a : ℕ) (v : Bool) (b k : ℕ)
    → pp (σ s a v b) (μ s a v b * k) + (nn s (a * k) + nn v (b * k)) ≡ nn (σ s a v b) (μ s a v b * k) + (pp s (a * k) + pp v (b * k))
adds_over s a v b k =
    let z = σ s a v b in
    let m = μ s a v b in
    rw (pp_mul z m k, nn_mul z m k, pp_mul s a k, nn_mul s a k, pp_mul v b k, nn_mul v b k)
    (sym (three (pp z m) (nn s a) (nn v b) k) ∙ ap (λ (x : ℕ). x * k) (adds s a v b) ∙ three (nn z m) (pp s a) (pp v b) k)
  where
    three : (x y z k : ℕ) → (x + (y + z)) * k ≡ x * k + (y * k + z * k)
    three x y z k = add-mul x (y + z) k ∙ ap (λ (w : ℕ). x * k + w) (add-mul y z k)

chain : (r₁ q₁ r₂ q₂ p₁ n₁ p₂ n₂ p₃ n₃ p₄ n₄ : ℕ) → r₁ + (n₁ + n₂) ≡ q₁ + (p₁ + p₂) → r₂ + (n₃ + n₄) ≡ q₂ + (p₃ + p₄) → p₁ + n₃ ≤ p₃ + n₁ → p₂ + n₄ ≤ p₄ + n₂ → r₁ + q₂ ≤ r₂ + q₁
chain r₁ q₁ r₂ q₂ p₁ n₁ p₂ n₂ p₃ n₃ p₄ n₄ e f g h = omega arith

sum_order : (f : Format) (s : Bool) (a : ℕ) (v : Bool) (b c : ℕ) (t : Bool) (a' : ℕ) (w : Bool) (b' d : ℕ) → 0 < c → 0 < d
    → SLe s (a * d) t (a' * c) → SLe v (b * d) w (b' * c) → Le (sum f s a v b c) (sum f t a' w b' d)
sum_order f s a v b c t a' w b' d C D g h =
    subst (λ (x : Float). Le x (sum f t a' w b' d)) (sym (sum_is f s a v b c))
    (subst (λ (y : Float). Le (round f (σ s a v b) (μ s a v b) c) y) (sym (sum_is f t a' w b' d))
    (round-order f (σ s a v b) (μ s a v b) c (σ t a' w b') (μ t a' w b') d C D
    (pn→sle (σ s a v b) (μ s a v b * d) (σ t a' w b') (μ t a' w b' * c)
    (chain _ _ _ _ _ _ _ _ _ _ _ _ (adds_over s a v b d) (adds_over t a' w b' c) (sle→pn s (a * d) t (a' * c) g) (sle→pn v (b * d) w (b' * c) h)))))

-- ---- fractions with a common factor
scaled : (s : Bool) (a : ℕ) (t : Bool) (b k : ℕ) → SLe s a t b → SLe s (a * k) t (b * k)
scaled false a false b k h = mul-le-mul_right k h
scaled false a true b k h = (ap (λ (z : ℕ). z * k) h.0 ∙ zero-mul k, ap (λ (z : ℕ). z * k) h.1 ∙ zero-mul k)
scaled true a false b k h = tt
scaled true a true b k h = mul-le-mul_right k h

-- p / q and r / u, each over a larger denominator
common : (s : Bool) (p u : ℕ) (t : Bool) (r q k k' : ℕ) → SLe s (p * u) t (r * q) → SLe s (p * k * (u * k')) t (r * k' * (q * k))
common s p u t r q k k' h =
    subst (λ (x : ℕ). SLe s x t (r * k' * (q * k))) (mul-mul-mul_comm p u k k')
    (subst (λ (y : ℕ). SLe s (p * u * (k * k')) t y) (mul-mul-mul_comm r q k' k)
    (subst (λ (z : ℕ). SLe s (p * u * (k * k')) t (r * q * z)) (mul_comm k k') (scaled s (p * u) t (r * q) (k * k') h)))

swapped : (v : Bool) (a l' u : ℕ) (w : Bool) (b l q : ℕ) → SLe v (a * (l' * u)) w (b * (l * q)) → SLe v (a * (u * l')) w (b * (q * l))
swapped v a l' u w b l q h = subst (λ (z : ℕ). SLe v (a * z) w (b * (q * l))) (mul_comm l' u) (subst (λ (z : ℕ). SLe v (a * (l' * u)) w (b * z)) (mul_comm l q) h)

pub add_order : (f : Format) (x y z w : Float) → T (finite x) → T (finite y) → T (finite z) → T (finite w) → T (le x y) → T (le z w) → T (le (add f x z) (add f y w))
unfolding add
add_order f nan y z w X Y Z W g h = absurd X
add_order f (inf s) y z w X Y Z W g h = absurd X
add_order f (fin s m e) nan z w X Y Z W g h = absurd Y
add_order f (fin s m e) (inf t) z w X Y Z W g h = absurd Y
add_order f (fin s m e) (fin t n d) nan w X Y Z W g h = absurd Z
add_order f (fin s m e) (fin t n d) (inf v) w X Y Z W g h = absurd Z
add_order f (fin s m e) (fin t n d) (fin v k c) nan X Y Z W g h = absurd W
add_order f (fin s m e) (fin t n d) (fin v k c) (inf b) X Y Z W g h = absurd W
add_order f (fin s m e) (fin t n d) (fin v k c) (fin b i j) X Y Z W g h =
    →le (sum f s (m * up e * down c) v (k * up c * down e) (down e * down c)) (sum f t (n * up d * down j) b (i * up j * down d) (down d * down j))
    (sum_order f s (m * up e * down c) v (k * up c * down e) (down e * down c) t (n * up d * down j) b (i * up j * down d) (down d * down j)
    (mul-pos (down_pos e) (down_pos c)) (mul-pos (down_pos d) (down_pos j))
    (common s (m * up e) (down d) t (n * up d) (down e) (down c) (down j) (le→ (fin s m e) (fin t n d) g))
    (swapped v (k * up c * down e) (down j) (down d) b (i * up j * down d) (down c) (down e)
    (common v (k * up c) (down j) b (i * up j) (down c) (down e) (down d) (le→ (fin v k c) (fin b i j) h))))

-- ---- x ≤ x + g
not_minus : (v : Bool) (k w u : ℕ) → SLe false (0 * 1 * w) v (k * 1) → nn v (k * u * u) ≡ 0
not_minus false k w u h = refl
not_minus true k w u h =
    let z : k ≡ 0 = sym (mul-one k) ∙ h.1 in
    ap (λ (n : ℕ). n * u * u) z ∙ ap (λ (n : ℕ). n * u) (zero-mul u) ∙ zero-mul u

gained : (r q p n p' n' : ℕ) → r + (n + n') ≡ q + (p + p') → n' ≡ 0 → p + q ≤ r + n
gained r q p n p' n' e z = omega arith

more : (s : Bool) (x q l : ℕ) (v : Bool) (k : ℕ) → nn v (k * q * q) ≡ 0 → SLe s (x * (q * l)) (σ s (x * l) v (k * q)) (μ s (x * l) v (k * q) * q)
more s x q l v k z =
    subst (λ (y : ℕ). SLe s y (σ s (x * l) v (k * q)) (μ s (x * l) v (k * q) * q)) (mul_assoc x l q ∙ ap (λ (y : ℕ). x * y) (mul_comm l q))
    (pn→sle s (x * l * q) (σ s (x * l) v (k * q)) (μ s (x * l) v (k * q) * q) (gained _ _ _ _ _ _ (adds_over s (x * l) v (k * q) q) z))

pub grows : (f : Format) (x g : Float) → T (fits f x) → T (finite x) → T (finite g) → T (le (float 0) g) → T (le x (add f x g))
unfolding add of_int
grows f nan g t X G h = absurd X
grows f (inf s) g t X G h = absurd X
grows f (fin s m e) nan t X G h = absurd G
grows f (fin s m e) (inf v) t X G h = absurd G
grows f (fin s m e) (fin v k c) t X G h =
    let a = m * up e * down c in
    let b = k * up c * down e in
    let d = down e * down c in
    →le (fin s m e) (sum f s a v b d)
    (subst (λ (x : Float). Le x (sum f s a v b d)) (round_own f s m e t)
    (subst (λ (y : Float). Le (round f s (m * up e) (down e)) y) (sym (sum_is f s a v b d))
    (round-order f s (m * up e) (down e) (σ s a v b) (μ s a v b) d (down_pos e) (mul-pos (down_pos e) (down_pos c))
    (more s (m * up e) (down e) (down c) v (k * up c) (not_minus v (k * up c) (down c) (down e) (le→ (float 0) (fin v k c) h))))))
