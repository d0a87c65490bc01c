-- Laws of numbers in decimal: how they grow by a digit, that they read back as what they are, how many digits there are, and that none leads as a zero.
use mathlib.Core.Path.{◌≡◌, refl, ap}
use mathlib.Core.Bool.{Bool, true, false, cond, ◌&&◌}
use mathlib.Core.List.{List, [], ◌∷◌, ◌++◌}
use Prim.Native.Nat.{ℕ, zero, suc, ◌+◌, ◌*◌, ◌-◌, ◌/◌, ◌%◌, ◌^◌, ◌≤◌, ◌<◌}
use native.Mathlib.Nat.{div-lt_self, div-lt_iff_lt-mul, div-add-mod', mod-lt, le-div_iff_mul-le, pow-suc, not-suc-le-zero}
use native.Mathlib.Omega.{arith}
use borrow.Author.Tests.{lt-ltb, le-ltb, ltb-true, ltb-false, le-leb}
use lib.Dec.{ltb}
use lib.ListN.{length, get_or, length-append, get_or-append}
use Rattle.listing.specs.Line.{is_digit, all, is_number, decimal_after, decimal}
use Rattle.listing.specs.Write.{digits_of, decimal_of}

-- ---- by a digit

pub tenth : (n : ℕ) → 10 ≤ n → n / 10 < n
tenth n h = div-lt_self (omega arith) (omega arith)

-- It does not matter how many digits are allowed, if they are enough.
enough : (k j n : ℕ) → n ≤ k → n ≤ j → digits_of k n ≡ digits_of j n
unfolding digits_of
enough zero zero n h l = refl
enough zero (suc j) n h l =
    let few : n < 10 = omega arith in
    rw (lt-ltb n 10 few)
enough (suc k) zero n h l =
    let few : n < 10 = omega arith in
    rw (lt-ltb n 10 few)
enough (suc k) (suc j) n h l = go (ltb n 10) refl (λ p q. enough k j (n / 10) p q)
  where
    go : (t : Bool) → ltb n 10 ≡ t → (n / 10 ≤ k → n / 10 ≤ j → digits_of k (n / 10) ≡ digits_of j (n / 10))
        → cond t ((48 + n) ∷ []) (digits_of k (n / 10) ++ ((48 + n % 10) ∷ [])) ≡ cond t ((48 + n) ∷ []) (digits_of j (n / 10) ++ ((48 + n % 10) ∷ []))
    go true e again = refl
    go false e again =
        let t : n / 10 < n = tenth n (ltb-false _ _ e) in
        rw (again (omega arith) (omega arith))

-- One digit.
pub decimal_one : (n : ℕ) → n < 10 → decimal_of n ≡ (48 + n) ∷ []
unfolding decimal_of digits_of
decimal_one zero h = refl
decimal_one (suc n) h = rw (lt-ltb (suc n) 10 h)

-- The tenth of it, and one digit more.
pub decimal_more : (n : ℕ) → 10 ≤ n → decimal_of n ≡ decimal_of (n / 10) ++ ((48 + n % 10) ∷ [])
unfolding decimal_of digits_of
decimal_more zero h = absurd (not-suc-le-zero h)
decimal_more (suc n) h =
    let t : suc n / 10 < suc n = tenth (suc n) h in
    rw (le-ltb (suc n) 10 h) (ap (λ (l : List ℕ). l ++ ((48 + suc n % 10) ∷ [])) (enough n (suc n / 10) (suc n / 10) (omega arith) (omega arith)))

-- ---- what holds of every number if it holds of those of one digit, and of each if of its tenth

by_digits : (P : ℕ → Type 0) → ((n : ℕ) → n < 10 → P n) → ((n : ℕ) → 10 ≤ n → P (n / 10) → P n) → (n : ℕ) → P n
by_digits P one more n = go n n (omega arith)
  where
    go : (k n : ℕ) → n ≤ k → P n
    go zero n h = one n (omega arith)
    go (suc k) n h = case (ltb n 10) refl (λ l. go k (n / 10) l)
      where
        case : (t : Bool) → ltb n 10 ≡ t → (n / 10 ≤ k → P (n / 10)) → P n
        case true e again = one n (ltb-true _ _ e)
        case false e again =
            let t : n / 10 < n = tenth n (ltb-false _ _ e) in
            more n (ltb-false _ _ e) (again (omega arith))

-- ---- read back

decimal_snoc : (v : ℕ) (ds : List ℕ) (d : ℕ) → decimal_after v (ds ++ (d ∷ [])) ≡ decimal_after v ds * 10 + (d - 48)
decimal_snoc v [] d = refl
decimal_snoc v (x ∷ ds) d = decimal_snoc (v * 10 + (x - 48)) ds d

pub decimal-back : (n : ℕ) → decimal (decimal_of n) ≡ n
decimal-back = by_digits (λ n. decimal (decimal_of n) ≡ n) one more
  where
    one : (n : ℕ) → n < 10 → decimal (decimal_of n) ≡ n
    one n h = rw (decimal_one n h) (omega arith)

    more : (n : ℕ) → 10 ≤ n → decimal (decimal_of (n / 10)) ≡ n / 10 → decimal (decimal_of n) ≡ n
    more n h e =
        let s : 48 + n % 10 - 48 ≡ n % 10 = omega arith in
        rw (decimal_more n h, decimal_snoc 0 (decimal_of (n / 10)) (48 + n % 10), e, s) (div-add-mod' n 10)

-- ---- digits alone

all_snoc : (ds : List ℕ) (d : ℕ) → all is_digit ds ≡ true → is_digit d ≡ true → all is_digit (ds ++ (d ∷ [])) ≡ true
all_snoc [] d h e = rw e
all_snoc (x ∷ ds) d h e = go (is_digit x) h (λ p. all_snoc ds d p e)
  where
    go : (t : Bool) → (t && all is_digit ds) ≡ true → (all is_digit ds ≡ true → all is_digit (ds ++ (d ∷ [])) ≡ true) → (t && all is_digit (ds ++ (d ∷ []))) ≡ true
    go true p again = again p
    go false p again = p

a_digit : (d : ℕ) → d < 10 → is_digit (48 + d) ≡ true
a_digit d h = rw (le-leb 48 (48 + d) (omega arith), le-leb (48 + d) 57 (omega arith))

pub decimal_digits : (n : ℕ) → all is_digit (decimal_of n) ≡ true
decimal_digits = by_digits (λ n. all is_digit (decimal_of n) ≡ true) one more
  where
    one : (n : ℕ) → n < 10 → all is_digit (decimal_of n) ≡ true
    one n h = rw (decimal_one n h) (rw (a_digit n h))

    more : (n : ℕ) → 10 ≤ n → all is_digit (decimal_of (n / 10)) ≡ true → all is_digit (decimal_of n) ≡ true
    more n h e = rw (decimal_more n h) (all_snoc (decimal_of (n / 10)) (48 + n % 10) e (a_digit (n % 10) (mod-lt n (omega arith))))

-- ---- how many

pub width_more : (n : ℕ) → 10 ≤ n → length (decimal_of n) ≡ length (decimal_of (n / 10)) + 1
width_more n h = rw (decimal_more n h, length-append)

pub decimal_some : (n : ℕ) → 1 ≤ length (decimal_of n)
decimal_some = by_digits (λ n. 1 ≤ length (decimal_of n)) one more
  where
    one : (n : ℕ) → n < 10 → 1 ≤ length (decimal_of n)
    one n h = rw (decimal_one n h) (omega arith)

    more : (n : ℕ) → 10 ≤ n → 1 ≤ length (decimal_of (n / 10)) → 1 ≤ length (decimal_of n)
    more n h e = rw (decimal_more n h, length-append) (omega arith)

-- Below a power of ten there are as many as its zeros.
pub decimal_few : (k n : ℕ) → n < 10 ^ suc k → length (decimal_of n) ≤ suc k
decimal_few zero n h = rw (decimal_one n h) (omega arith)
decimal_few (suc k) n h = go (ltb n 10) refl (decimal_few k (n / 10))
  where
    go : (t : Bool) → ltb n 10 ≡ t → (n / 10 < 10 ^ suc k → length (decimal_of (n / 10)) ≤ suc k) → length (decimal_of n) ≤ suc (suc k)
    go true e again = rw (decimal_one n (ltb-true _ _ e)) (omega arith)
    go false e again =
        let l : n < 10 ^ suc k * 10 = rw pow-suc at h in
        let m = again ((div-lt_iff_lt-mul (omega arith)).1 l) in
        rw (decimal_more n (ltb-false _ _ e), length-append) (omega arith)

-- 1 to 20 for 64 bits.
pub decimal_20 : (n : ℕ) → n < 2 ^ 64 → length (decimal_of n) ≤ 20
decimal_20 n h = decimal_few 19 n (omega arith)

-- ---- no zero leads

pub no_zero_leads : (n : ℕ) → 0 < n → 48 < get_or (decimal_of n) 0 0
no_zero_leads = by_digits (λ n. 0 < n → 48 < get_or (decimal_of n) 0 0) one more
  where
    one : (n : ℕ) → n < 10 → 0 < n → 48 < get_or (decimal_of n) 0 0
    one n h p = rw (decimal_one n h) (omega arith)

    more : (n : ℕ) → 10 ≤ n → (0 < n / 10 → 48 < get_or (decimal_of (n / 10)) 0 0) → 0 < n → 48 < get_or (decimal_of n) 0 0
    more n h e p =
        let q : 1 ≤ n / 10 = (le-div_iff_mul-le {k = 10} {x = 1} {y = n} (omega arith)).1 (omega arith) in
        rw (decimal_more n h, get_or-append (decimal_of (n / 10)) ((48 + n % 10) ∷ []) 0 0 (decimal_some (n / 10))) (e q)

-- A number below 10 ^ 15 is written as one that may be read.
pub decimal_number : (n : ℕ) → n < 10 ^ 15 → is_number (decimal_of n) ≡ true
unfolding is_number
decimal_number n h = rw (le-leb 1 (length (decimal_of n)) (decimal_some n), le-leb (length (decimal_of n)) 15 (decimal_few 14 n h), decimal_digits n)
