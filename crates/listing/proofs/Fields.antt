-- Laws of fields: one byte more at a place, what a number at a place says of the fields from there on, and three numbers.
use mathlib.Core.Path.{◌≡◌, refl, ap, sym, ◌∙◌}
use mathlib.Core.Bool.{Bool, true, false, cond, ◌&&◌, and-false}
use mathlib.Core.List.{List, [], ◌∷◌}
use Prim.Native.Nat.{ℕ, zero, suc, ◌+◌, ◌*◌, ◌-◌, ◌^◌, ◌≤◌, ◌<◌}
use native.Mathlib.Nat.{zero-add, add-zero, not-suc-le-zero, le_of_suc-le-suc, pow-suc, pow-le-pow_right}
use native.Mathlib.Numerals.{add-one}
use native.Mathlib.Omega.{arith}
use borrow.Author.Tests.{le-leb, lt-leb, eq-eqb, ne_eqb}
use lib.Dec.{leb, eqb}
use Rattle.std.specs.Prelude.{Option, Some, None}
use lib.ListN.{length, drop, get_or, length-drop, drop_of_length-le}
use lib.Seq.{drop-cons, drop-drop}
use Rattle.listing.specs.Line.{in_front, fields, first, is_digit, all, is_number, decimal_after, decimal, number_from, three_in}

-- ---- the first field

-- There is always one.
pub fields_cons : (s : List ℕ) → fields s ≡ first s ∷ drop 1 (fields s)
unfolding fields
fields_cons [] = refl
fields_cons (b ∷ bs) = go (eqb b 32) (fields bs)
  where
    go : (t : Bool) (fs : List (List ℕ)) → cond t ([] ∷ fs) (in_front b fs) ≡ get_or (cond t ([] ∷ fs) (in_front b fs)) 0 [] ∷ drop 1 (cond t ([] ∷ fs) (in_front b fs))
    go true fs = refl
    go false [] = refl
    go false (f ∷ fs) = refl

-- A space ends it.
pub fields_space : (b : ℕ) (bs : List ℕ) → eqb b 32 ≡ true → fields (b ∷ bs) ≡ [] ∷ fields bs
unfolding fields
fields_space b bs e = rw e

-- Any other byte belongs to it.
pub fields_byte : (b : ℕ) (bs : List ℕ) → eqb b 32 ≡ false → fields (b ∷ bs) ≡ (b ∷ first bs) ∷ drop 1 (fields bs)
unfolding fields
fields_byte b bs e = rw e (ap (in_front b) (fields_cons bs))

-- ---- a number, one byte after the other

-- the number that the rest f of a field makes of k digits with the value v before place i
abbrev number_on : ℕ → ℕ → ℕ → List ℕ → Option (ℕ × ℕ)
number_on k v i f = cond ((leb 1 (k + length f) && leb (k + length f) 15) && all is_digit f) (Some (decimal_after v f, i + length f)) None

no_more : (at i v : ℕ) → at ≤ i → i - at ≤ 15 → number_on (i - at) v i [] ≡ cond (eqb at i) None (Some (v, i))
no_more at i v h k = go (i - at) refl
  where
    go : (n : ℕ) → i - at ≡ n → number_on (i - at) v i [] ≡ cond (eqb at i) None (Some (v, i))
    go zero e =
        let same : at ≡ i = omega arith in
        rw (e, eq-eqb at i same)
    go (suc n) e =
        let less : (at ≡ i → ⊥) = omega arith in
        let few : suc n ≤ 15 = omega arith in
        rw (e, add-zero, le-leb 1 (suc n) (omega arith), le-leb (suc n) 15 few, ne_eqb at i less, add-zero)

module _ (k v i b : ℕ) (f : List ℕ) where
  no_digit : is_digit b ≡ false → number_on k v i (b ∷ f) ≡ None
  no_digit e = rw (e, and-false)

  no_room : 15 ≤ k → number_on k v i (b ∷ f) ≡ None
  no_room h = rw (lt-leb (k + suc (length f)) 15 (omega arith), and-false)

  one_more : is_digit b ≡ true → number_on k v i (b ∷ f) ≡ number_on (suc k) (v * 10 + (b - 48)) (suc i) f
  one_more e =
      let m : k + suc (length f) ≡ suc k + length f = omega arith in
      let n : i + suc (length f) ≡ suc i + length f = omega arith in
      rw (m, n, e)

-- The number that starts at place `at`, of which the bytes before place i are read and have the value v.
abbrev pub ahead : List ℕ → ℕ → ℕ → ℕ → Option (ℕ × ℕ)
ahead line at i v = number_on (i - at) v i (first (drop i line))

pub ahead_start : (line : List ℕ) (at : ℕ) → number_from at (drop at line) ≡ ahead line at at 0
unfolding number_from is_number
ahead_start line at =
    let z : at - at ≡ 0 = omega arith in
    rw (z, zero-add)

module _ (line : List ℕ) (at i v : ℕ) where
  pub ahead_end : at ≤ i → i - at ≤ 15 → length line ≤ i → ahead line at i v ≡ cond (eqb at i) None (Some (v, i))
  unfolding fields
  ahead_end h k l = rw (drop_of_length-le line l) (no_more at i v h k)

  module _ (l : i < length line) where
    pub ahead_space : at ≤ i → i - at ≤ 15 → get_or line i 0 ≡ 32 → ahead line at i v ≡ cond (eqb at i) None (Some (v, i))
    ahead_space h k e = rw (drop-cons line i 0 l, fields_space (get_or line i 0) (drop (suc i) line) (eq-eqb _ _ e)) (no_more at i v h k)

    module _ (n : get_or line i 0 ≡ 32 → ⊥) where
      first_byte : first (drop i line) ≡ get_or line i 0 ∷ first (drop (suc i) line)
      first_byte = rw (drop-cons line i 0 l, fields_byte (get_or line i 0) (drop (suc i) line) (ne_eqb _ _ n))

      pub ahead_below : get_or line i 0 < 48 → ahead line at i v ≡ None
      ahead_below h = ap (number_on (i - at) v i) first_byte ∙ no_digit (i - at) v i (get_or line i 0) (first (drop (suc i) line)) (rw (lt-leb _ _ h))

      pub ahead_above : 57 < get_or line i 0 → ahead line at i v ≡ None
      ahead_above h = ap (number_on (i - at) v i) first_byte ∙ no_digit (i - at) v i (get_or line i 0) (first (drop (suc i) line)) (rw (lt-leb _ _ h, and-false))

      pub ahead_full : 15 ≤ i - at → ahead line at i v ≡ None
      ahead_full h = ap (number_on (i - at) v i) first_byte ∙ no_room (i - at) v i (get_or line i 0) (first (drop (suc i) line)) h

      pub ahead_digit : at ≤ i → 48 ≤ get_or line i 0 → get_or line i 0 ≤ 57 → ahead line at i v ≡ ahead line at (i + 1) (v * 10 + (get_or line i 0 - 48))
      ahead_digit a h k =
          let next : suc i - at ≡ suc (i - at) = omega arith in
          ap (number_on (i - at) v i) first_byte
          ∙ one_more (i - at) v i (get_or line i 0) (first (drop (suc i) line)) (rw (le-leb _ _ h, le-leb _ _ k))
          ∙ rw (add-one, next)

-- The digits so far have a value below a power of ten, which leaves room for one more.
pub value_grows : (v d n m : ℕ) → v < 10 ^ n → d ≤ 9 → m ≡ suc n → v * 10 + d < 10 ^ m
value_grows v d n m h k e = rw (e, pow-suc) (omega arith)

pub value_fits : (v n : ℕ) → v < 10 ^ n → n ≤ 15 → v < 10 ^ 15
value_fits v n h k =
    let p : 10 ^ n ≤ 10 ^ 15 = pow-le-pow_right (omega arith) k in
    omega arith

-- ---- the fields after the first

pub fields_last : (s : List ℕ) → length s ≤ length (first s) → fields s ≡ first s ∷ []
unfolding fields
fields_last [] h = refl
fields_last (b ∷ bs) h = go (eqb b 32) refl (fields_last bs)
  where
    go : (t : Bool) → eqb b 32 ≡ t → (length bs ≤ length (first bs) → fields bs ≡ first bs ∷ []) → fields (b ∷ bs) ≡ first (b ∷ bs) ∷ []
    go true e again = absurd (not-suc-le-zero (rw (fields_space b bs e) at h))
    go false e again =
        let l : suc (length bs) ≤ suc (length (first bs)) = rw (fields_byte b bs e) at h in
        rw (fields_byte b bs e) (ap (λ (fs : List (List ℕ)). (b ∷ first bs) ∷ drop 1 fs) (again (le_of_suc-le-suc l)))

pub fields_more : (s : List ℕ) → length (first s) < length s → fields s ≡ first s ∷ fields (drop (suc (length (first s))) s)
fields_more [] h = absurd (not-suc-le-zero h)
fields_more (b ∷ bs) h = go (eqb b 32) refl (fields_more bs)
  where
    go : (t : Bool) → eqb b 32 ≡ t → (length (first bs) < length bs → fields bs ≡ first bs ∷ fields (drop (suc (length (first bs))) bs))
        → fields (b ∷ bs) ≡ first (b ∷ bs) ∷ fields (drop (suc (length (first (b ∷ bs)))) (b ∷ bs))
    go true e again = rw (fields_space b bs e)
    go false e again =
        let l : suc (length (first bs)) < suc (length bs) = rw (fields_byte b bs e) at h in
        rw (fields_byte b bs e) (ap (λ (fs : List (List ℕ)). (b ∷ first bs) ∷ drop 1 fs) (again (le_of_suc-le-suc l)))

-- ---- what a number at a place says

-- The field from place `at` on is a number with the value a, and i is the place after it.
pub record Got (line : List ℕ) (at a i : ℕ) : Type 0 where
  pub field : List ℕ
  pub number : is_number field ≡ true
  pub value : decimal field ≡ a
  pub last : length line ≤ i → fields (drop at line) ≡ field ∷ []
  pub more : i < length line → fields (drop at line) ≡ field ∷ fields (drop (i + 1) line)

-- two pairs that are told are the same in both parts
some_pair : {a b i j : ℕ} → ◌≡◌ {A = Option (ℕ × ℕ)} (Some (a, i)) (Some (b, j)) → (a ≡ b) × (i ≡ j)
some_pair {a} {b} {i} {j} e =
    let part : Option (ℕ × ℕ) → ℕ × ℕ = λ o. elim o [ Some p ↦ p | None ↦ (0, 0) ] in
    (ap (λ (o : Option (ℕ × ℕ)). (part o).0) e, ap (λ (o : Option (ℕ × ℕ)). (part o).1) e)

pub got : (line : List ℕ) (at a i : ℕ) → ◌≡◌ {A = Option (ℕ × ℕ)} (Some (a, i)) (number_from at (drop at line)) → Got line at a i
unfolding number_from
got line at a i e = go (is_number (first (drop at line))) refl e
  where
    go : (t : Bool) → is_number (first (drop at line)) ≡ t
        → ◌≡◌ {A = Option (ℕ × ℕ)} (Some (a, i)) (cond t (Some (decimal (first (drop at line)), at + length (first (drop at line)))) None) → Got line at a i
    go true n p =
        let q = some_pair p in
        let v : decimal (first (drop at line)) ≡ a = sym q.0 in
        let w : at + length (first (drop at line)) ≡ i = sym q.1 in
        record { field = first (drop at line); number = n; value = v; last = at_end w; more = before_end w }
      where
        at_end : at + length (first (drop at line)) ≡ i → length line ≤ i → fields (drop at line) ≡ first (drop at line) ∷ []
        at_end w h = fields_last (drop at line) (omega (arith, length-drop at line))

        before_end : at + length (first (drop at line)) ≡ i → i < length line → fields (drop at line) ≡ first (drop at line) ∷ fields (drop (i + 1) line)
        before_end w h =
            let z : at + suc (length (first (drop at line))) ≡ i + 1 = omega arith in
            fields_more (drop at line) (omega (arith, length-drop at line))
            ∙ ap (λ (l : List ℕ). first (drop at line) ∷ fields l) (drop-drop (suc (length (first (drop at line)))) at line ∙ ap (λ (n : ℕ). drop n line) z)
    go false n p = let z : ◌≡◌ {A = ℕ} 0 1 = cc in absurd (zero_one z)
      where
        zero_one : ◌≡◌ {A = ℕ} 0 1 → ⊥
        zero_one q = omega arith

-- The field from place `at` on is no number.
pub lost : (at : ℕ) (s : List ℕ) → None ≡ number_from at s → is_number (first s) ≡ false
unfolding number_from
lost at s e = go (is_number (first s)) refl e
  where
    go : (t : Bool) → is_number (first s) ≡ t → ◌≡◌ {A = Option (ℕ × ℕ)} None (cond t (Some (decimal (first s), at + length (first s))) None) → is_number (first s) ≡ false
    go true n p = let z : ◌≡◌ {A = ℕ} 0 1 = cc in absurd (zero_one z)
      where
        zero_one : ◌≡◌ {A = ℕ} 0 1 → ⊥
        zero_one q = omega arith
    go false n p = n

-- So the fields from there on are not all numbers.
pub not_all : (at : ℕ) (s : List ℕ) → None ≡ number_from at s → all is_number (fields s) ≡ false
not_all at s e = rw (fields_cons s, lost at s e)

-- ---- three numbers

three_none : (fs : List (List ℕ)) → all is_number fs ≡ false → three_in fs ≡ None
unfolding three_in
three_none fs e = rw e

three_count : (fs : List (List ℕ)) → eqb (length fs) 3 ≡ false → three_in fs ≡ None
unfolding three_in
three_count fs e = rw (e, and-false)

-- what the fields from place `at` on are, by the numbers that are found there one after the other
module _ (line : List ℕ) (at : ℕ) where
  pub three_no_first : None ≡ number_from at (drop at line) → three_in (fields (drop at line)) ≡ None
  three_no_first e = three_none _ (not_all at (drop at line) e)

  module _ {a i : ℕ} (x : Got line at a i) where
    pub three_one : length line ≤ i → three_in (fields (drop at line)) ≡ None
    three_one l = rw (x.last l) (three_count (x.field ∷ []) refl)

    module _ (l : i < length line) where
      pub three_no_second : None ≡ number_from (i + 1) (drop (i + 1) line) → three_in (fields (drop at line)) ≡ None
      three_no_second e = rw (x.more l) (three_none _ (rw (not_all (i + 1) (drop (i + 1) line) e, and-false)))

      module _ {b j : ℕ} (y : Got line (i + 1) b j) where
        pub three_two : length line ≤ j → three_in (fields (drop at line)) ≡ None
        three_two m = rw (x.more l, y.last m) (three_count (x.field ∷ y.field ∷ []) refl)

        module _ (m : j < length line) where
          pub three_no_third : None ≡ number_from (j + 1) (drop (j + 1) line) → three_in (fields (drop at line)) ≡ None
          three_no_third e = rw (x.more l, y.more m) (three_none _ (rw (not_all (j + 1) (drop (j + 1) line) e, and-false, and-false)))

          module _ {c k : ℕ} (z : Got line (j + 1) c k) where
            pub three_four : k < length line → three_in (fields (drop at line)) ≡ None
            three_four n = rw (x.more l, y.more m, z.more n, fields_cons (drop (k + 1) line)) (three_count _ (ne_eqb _ 3 (above (length (drop 1 (fields (drop (k + 1) line)))))))
              where
                above : (n : ℕ) → suc (suc (suc (suc n))) ≡ 3 → ⊥
                above n e = omega arith

            pub three_all : length line ≤ k → three_in (fields (drop at line)) ≡ Some (a, b, c)
            unfolding three_in
            three_all n = rw (x.more l, y.more m, z.last n, x.number, y.number, z.number, x.value, y.value, z.value)
