-- S is at least 1, and at most 2 ^ 27 for every cycle and period that document 01 allows.
use Rattle.std.proofs.Common.{◌≡◌, ℕ, zero, suc, ◌*◌, ◌^◌, ◌<◌, ◌≤◌, max, Bool, true, false, cond, T, eqb, ltb, ◌⊎◌, ℤ, pos, negsuc, sym, refl, ap, ◌∙◌, subst, inl, inr, le_trans, le_of_eq, le_refl, lt_irrefl, mul-le-mul_right, mul_assoc, mul_comm, mul-pos, zero-mul, mul-one, mul_right_comm, arith, lit<, lit≤, eqb→eq, pow_pos, le-ltb}
use lib.Dec.{eqb-suc-zero}
use lib.Ieee.{Float, nan, inf, fin, binary64, up, down, round, div, lt, le, eq, of_int, to_unsigned, unlike}
use lib.Ieee.Fits.{down_pos, and_l}
use lib.Ieee.Positive.{first_pos}
use Rattle.ieee.specs.Round.{float, round_ties_even, slices_of}
use Rattle.ieee.proofs.Order.{SLe, Le, le→, →le}
use Rattle.ieee.proofs.Rounded.{round-order}
use Rattle.ieee.proofs.Even.{cast_bound}

at_least : (b : Bool) (n : ℕ) → 1 ≤ cond b (max n 1) 1
at_least true n = omega arith
at_least false n = le_refl 1

pub slices_pos : (p c : Float) → 1 ≤ slices_of p c
unfolding slices_of
slices_pos p c = at_least (lt (float 0) c) (to_unsigned 64 (round_ties_even (div binary64 p c)))

-- ---- the quotient
linear : (pu qu rq : ℕ) → pu ≤ 86400 * qu → 1152921504606847 * qu ≤ 1152921504606846976 * rq → pu * 1 ≤ 134217728 * rq
linear pu qu rq g h = omega arith

cross : (P q R u : ℕ) → P * 1 ≤ 86400 * q → 1152921504606847 * u ≤ R * 2 ^ 60 → P * u * 1 ≤ 2 ^ 27 * (R * q)
cross P q R u g h =
    linear (P * u) (q * u) (R * q)
    (le_trans (le_of_eq (ap (λ (z : ℕ). z * u) (sym (mul-one P)))) (le_trans (mul-le-mul_right u g) (le_of_eq (mul_assoc 86400 q u))))
    (le_trans (le_of_eq (ap (λ (z : ℕ). 1152921504606847 * z) (mul_comm q u) ∙ sym (mul_assoc 1152921504606847 u q))) (le_trans (mul-le-mul_right q h) (le_of_eq (mul_right_comm R (2 ^ 60) q ∙ mul_comm (R * q) (2 ^ 60)))))

some : (x u : ℕ) → 0 < u → 1152921504606847 * u ≤ x * 1152921504606846976 → 0 < x
some x u U h = omega arith

module _ (m : ℕ) (e : ℤ) (n : ℕ) (d : ℤ) where
  quotient : (s : Bool) → SLe s (m * up e * 1) false (86400 * down e) → 1152921504606847 * down d ≤ n * up d * 2 ^ 60
      → Le (round binary64 s (m * up e * down d) (n * up d * down e)) (round binary64 false (2 ^ 27) 1)
  quotient true g h = round-order binary64 true (m * up e * down d) (n * up d * down e) false (2 ^ 27) 1 (mul-pos (some (n * up d) (down d) (down_pos d) h) (down_pos e)) (pow_pos 0) tt
  quotient false g h = round-order binary64 false (m * up e * down d) (n * up d * down e) false (2 ^ 27) 1 (mul-pos (some (n * up d) (down d) (down_pos d) h) (down_pos e)) (pow_pos 0) (cross (m * up e) (down e) (n * up d) (down d) g h)

-- a divisor that is not zero
divides : (s : Bool) (m : ℕ) (e : ℤ) (n : ℕ) (d : ℤ) → 0 < n → div binary64 (fin s m e) (fin false n d) ≡ round binary64 (unlike s false) (m * up e * down d) (n * up d * down e)
unfolding div
divides s m e zero d h = absurd (lt_irrefl 0 h)
divides s m e (suc n) d h = ap (λ (b : Bool). cond b (cond (eqb m 0) nan (inf (unlike s false))) (round binary64 (unlike s false) (m * up e * down d) (suc n * up d * down e))) (eqb-suc-zero n)

same_sign : (s : Bool) → unlike s false ≡ s
same_sign true = refl
same_sign false = refl

-- the limits of document 01, as floats: 86,400 is 675 * 2 ^ 7, and the float nearest to 0.001 is 1152921504606847 / 2 ^ 60
quotient_bound : (p c : Float) → T (le (float 0) p) → T (le p (float 86400)) → T (le (round binary64 false 1 1000) c) → T (le c (float 3600)) → T (le (div binary64 p c) (fin false 1 (pos 27)))
unfolding round of_int
quotient_bound p c lo hi g h = go p c (le→ (float 0) p lo) (le→ p (fin false 675 (pos 7)) hi) (le→ (fin false 1152921504606847 (negsuc 59)) c g) (le→ c (fin false 225 (pos 4)) h)
  where
    go : (p c : Float) → Le (float 0) p → Le p (fin false 675 (pos 7)) → Le (fin false 1152921504606847 (negsuc 59)) c → Le c (fin false 225 (pos 4)) → T (le (div binary64 p c) (fin false 1 (pos 27)))
    go nan c a b g h = absurd b
    go (inf true) c a b g h = absurd a
    go (inf false) c a b g h = absurd b
    go (fin s m e) nan a b g h = absurd g
    go (fin s m e) (inf true) a b g h = absurd g
    go (fin s m e) (inf false) a b g h = absurd h
    go (fin s m e) (fin true n d) a b g h = absurd (lt_irrefl 0 (subst (λ (z : ℕ). 0 < z) g.0 (mul-pos (lit< tt) (down_pos d))))
    go (fin s m e) (fin false n d) a b g h =
        let N : 0 < n = first_pos n (up d) (some (n * up d) (down d) (down_pos d) g) in
        subst (λ (y : Float). T (le y (fin false 1 (pos 27)))) (sym (divides s m e n d N))
        (subst (λ (t : Bool). T (le (round binary64 t (m * up e * down d) (n * up d * down e)) (fin false 1 (pos 27)))) (sym (same_sign s))
        (→le (round binary64 s (m * up e * down d) (n * up d * down e)) (fin false 1 (pos 27)) (quotient m e n d s b g)))

most : (b : Bool) (n : ℕ) → n ≤ 2 ^ 27 → cond b (max n 1) 1 ≤ 2 ^ 27
most true n h = omega arith
most false n h = lit≤ tt

not_above : (a b : ℕ) → a ≡ 0 → ltb b a ≡ false
not_above a b e = le-ltb b a (omega arith)

no_more : (c : Float) → T (eq c (float 0)) → lt (float 0) c ≡ false
unfolding eq lt of_int
no_more nan z = absurd z
no_more (inf s) z = absurd z
no_more (fin true n d) z = refl
no_more (fin false n d) z = not_above (n * up d * 1) (0 * 1 * down d) (eqb→eq (n * up d * 1) (0 * 1 * down d) (and_l (eqb (n * up d * 1) (0 * 1 * down d)) true z) ∙ zero-mul (down d))

-- cycle 0 or 0.001 to 3,600 s; period 0 to 86,400 s
pub slices_bound : (p c : Float) → T (le (float 0) p) → T (le p (float 86400)) → T (eq c (float 0)) ⊎ (T (le (round binary64 false 1 1000) c) × T (le c (float 3600))) → slices_of p c ≤ 2 ^ 27
unfolding slices_of
slices_bound p c lo hi (inl z) = le_trans (le_of_eq (ap (λ (b : Bool). cond b (max (to_unsigned 64 (round_ties_even (div binary64 p c))) 1) 1) (no_more c z))) (lit≤ tt)
slices_bound p c lo hi (inr r) = most (lt (float 0) c) (to_unsigned 64 (round_ties_even (div binary64 p c))) (cast_bound (div binary64 p c) (quotient_bound p c lo hi r.0 r.1))
