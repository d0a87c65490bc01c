-- The order of floats: what `le` says of two of them, and the laws of `le` and `lt`, which are std's.
use Rattle.std.proofs.Common.{◌≡◌, ℕ, zero, suc, ◌+◌, ◌*◌, ◌<◌, ◌≤◌, Bool, true, false, not, ◌&&◌, ◌||◌, T, eqb, ltb, ◌⊎◌, sym, refl, ◌∙◌, subst, inl, inr, le_of_eq, le_of_lt, lt_irrefl, zero-lt-suc, eq-or-lt_of_le, mul-pos, arith, eqb→eq, ltb→lt, lt→ltb, nltb→le}
use Rattle.std.proofs.lemmas.Float as float
use lib.Ieee.{Float, nan, inf, fin, up, down, below, level, lt, le, is_nan}
use lib.Ieee.Fits.{and_l, and_r, and_i, eq→eqb}
use mir.Facts.{or_yes}

-- ---- a test of the code, found true or false, as a fact
pub yes : {b : Bool} → b ≡ true → T b
yes p = float.T_from_true _ p

pub no : {b : Bool} → b ≡ false → T (not b)
no p = float.T_from_false _ p

-- ---- ±a ≤ ±b
abbrev pub SLe : Bool → ℕ → Bool → ℕ → Type 0
SLe false a false b = a ≤ b
SLe false a true b = (a ≡ 0) × (b ≡ 0)
SLe true a false b = Unit
SLe true a true b = b ≤ a

or_l : (a b : Bool) → T a → T (a || b)
or_l true b t = tt
or_l false b t = absurd t

or_r : (a b : Bool) → T b → T (a || b)
or_r true b t = tt
or_r false b t = t

sle→ : (s : Bool) (a : ℕ) (t : Bool) (b : ℕ) → SLe s a t b → T (below s a t b || level s a t b)
sle→ false a false b h = elim (eq-or-lt_of_le h) [ inl e ↦ or_r (ltb a b) (eqb a b && true) (and_i (eqb a b) true (eq→eqb e) tt) | inr l ↦ or_l (ltb a b) (eqb a b && true) (lt→ltb a b l) ]
sle→ false a true b h = and_i (eqb a b) (eqb a 0) (eq→eqb (h.0 ∙ sym h.1)) (eq→eqb h.0)
sle→ true a false b h = go (ltb 0 (a + b)) (nltb→le 0 (a + b))
  where
    go : (t : Bool) → (T (not t) → a + b ≤ 0) → T (t || (eqb a b && eqb a 0))
    go true f = tt
    go false f =
        let k : a + b ≤ 0 = f tt in
        let e : a ≡ b = omega arith in
        let z : a ≡ 0 = omega arith in
        and_i (eqb a b) (eqb a 0) (eq→eqb e) (eq→eqb z)
sle→ true a true b h = elim (eq-or-lt_of_le h) [ inl e ↦ or_r (ltb b a) (eqb a b && true) (and_i (eqb a b) true (eq→eqb (sym e)) tt) | inr l ↦ or_l (ltb b a) (eqb a b && true) (lt→ltb b a l) ]

→sle : (s : Bool) (a : ℕ) (t : Bool) (b : ℕ) → T (below s a t b || level s a t b) → SLe s a t b
→sle false a false b h = elim (or_yes (ltb a b) (eqb a b && true) h) [ inl u ↦ le_of_lt (ltb→lt a b u) | inr u ↦ le_of_eq (eqb→eq a b (and_l (eqb a b) true u)) ]
→sle false a true b h =
    let z : a ≡ 0 = eqb→eq a 0 (and_r (eqb a b) (eqb a 0) h) in
    (z, sym (eqb→eq a b (and_l (eqb a b) (eqb a 0) h)) ∙ z)
→sle true a false b h = tt
→sle true a true b h = elim (or_yes (ltb b a) (eqb a b && true) h) [ inl u ↦ le_of_lt (ltb→lt b a u) | inr u ↦ le_of_eq (sym (eqb→eq a b (and_l (eqb a b) true u))) ]

-- ---- `le`, as a type that computes by the kinds of the two
abbrev pub Le : Float → Float → Type 0
Le nan y = ⊥
Le (inf s) nan = ⊥
Le (inf true) (inf t) = Unit
Le (inf true) (fin t n d) = Unit
Le (inf false) (inf t) = T (not t)
Le (inf false) (fin t n d) = ⊥
Le (fin s m e) nan = ⊥
Le (fin s m e) (inf t) = T (not t)
Le (fin s m e) (fin t n d) = SLe s (m * up e * down d) t (n * up d * down e)

pub le→ : (x y : Float) → T (le x y) → Le x y
unfolding le
le→ nan y h = h
le→ (inf true) nan h = h
le→ (inf false) nan h = h
le→ (inf true) (inf t) h = tt
le→ (inf true) (fin t n d) h = tt
le→ (inf false) (inf true) h = h
le→ (inf false) (inf false) h = tt
le→ (inf false) (fin t n d) h = h
le→ (fin s m e) nan h = h
le→ (fin s m e) (inf true) h = h
le→ (fin s m e) (inf false) h = tt
le→ (fin s m e) (fin t n d) h = →sle s (m * up e * down d) t (n * up d * down e) h

pub →le : (x y : Float) → Le x y → T (le x y)
unfolding le
→le nan y h = h
→le (inf true) nan h = h
→le (inf false) nan h = h
→le (inf true) (inf true) h = tt
→le (inf true) (inf false) h = tt
→le (inf true) (fin t n d) h = tt
→le (inf false) (inf true) h = h
→le (inf false) (inf false) h = tt
→le (inf false) (fin t n d) h = h
→le (fin s m e) nan h = h
→le (fin s m e) (inf true) h = h
→le (fin s m e) (inf false) h = tt
→le (fin s m e) (fin t n d) h = sle→ s (m * up e * down d) t (n * up d * down e) h

pub zero_of : (n u : ℕ) → 0 < u → n * u ≡ 0 → n ≡ 0
zero_of zero u U e = refl
zero_of (suc n) u U e = absurd (lt_irrefl 0 (subst (λ (z : ℕ). 0 < z) e (mul-pos (zero-lt-suc n) U)))

-- ---- std's laws, under the names that the crates above cite
pub le_trans_float : (x y z : Float) → T (le x y) → T (le y z) → T (le x z)
le_trans_float x y z g h = float.le_trans x y z g h

pub lt→le : (x y : Float) → T (lt x y) → T (le x y)
lt→le x y h = float.le_of_lt x y h

pub le_total-float : (x y : Float) → T (not (is_nan x)) → T (not (is_nan y)) → T (le x y) ⊎ T (le y x)
le_total-float x y p q = go (le x y) refl
  where
    go : (b : Bool) → le x y ≡ b → T (le x y) ⊎ T (le y x)
    go true e = inl (yes e)
    go false e = inr (lt→le y x (float.lt_of_not-le x y p q (no e)))

pub not-lt→le : (x y : Float) → T (not (is_nan x)) → T (not (is_nan y)) → T (not (lt x y)) → T (le y x)
not-lt→le x y p q h = float.le_of_not-lt x y p q h

pub le_refl_float : (x : Float) → T (not (is_nan x)) → T (le x x)
le_refl_float x p = float.le_refl x p
