-- `compared` is a strict total order of names.
use mathlib.Core.Path.{◌≡◌, refl, sym, ◌∙◌}
use mathlib.Core.Bool.{Bool, true, false, cond}
use mathlib.Core.List.{List, [], ◌∷◌}
use Prim.Native.Nat.{ℕ, ◌≤◌, ◌<◌}
use native.Mathlib.Omega.{arith}
use borrow.Author.Tests.{lt-ltb, le-ltb, ltb-true, ltb-false}
use lib.Dec.{ltb}
use Rattle.std.proofs.Common.{Ordering, Less, Equal, Greater}
use Rattle.names.specs.Order.{compared, is_less, is_same}

-- a claim by the three answers
pub by_order : {C : Type 0} (o : Ordering) → (o ≡ Less → C) → (o ≡ Equal → C) → (o ≡ Greater → C) → C
by_order Less f g k = f refl
by_order Equal f g k = g refl
by_order Greater f g k = k refl

-- the answer, from a test of it
pub is_less_lem : (o : Ordering) → is_less o ≡ true → o ≡ Less
is_less_lem Less e = refl
is_less_lem Equal e = cc
is_less_lem Greater e = cc

pub is_same_lem : (o : Ordering) → is_same o ≡ true → o ≡ Equal
is_same_lem Less e = cc
is_same_lem Equal e = refl
is_same_lem Greater e = cc

-- two first bytes, and how the rest compares
abbrev head : ℕ → ℕ → Ordering → Ordering
head x y r = cond (ltb x y) Less (cond (ltb y x) Greater r)

head_less : (x y : ℕ) (r : Ordering) → x < y → head x y r ≡ Less
head_less x y r h = simp (lt-ltb _ _ h)

head_greater : (x y : ℕ) (r : Ordering) → y < x → head x y r ≡ Greater
head_greater x y r h = simp (le-ltb x y (omega arith), lt-ltb _ _ h)

head_same : (x y : ℕ) (r : Ordering) → x ≡ y → head x y r ≡ r
head_same x y r e = simp (le-ltb x y (omega arith), le-ltb y x (omega arith))

-- a claim by how two numbers stand
pub by_numbers : {C : Type 0} (x y : ℕ) → (x < y → C) → (y < x → C) → (x ≡ y → C) → C
by_numbers {C = C} x y f g k = go (ltb x y) refl (ltb y x) refl
  where
    go : (t : Bool) → ltb x y ≡ t → (u : Bool) → ltb y x ≡ u → C
    go true e u d = f (ltb-true _ _ e)
    go false e true d = g (ltb-true _ _ d)
    go false e false d =
        let p : y ≤ x = ltb-false _ _ e in
        let q : x ≤ y = ltb-false _ _ d in
        k (omega arith)

pub compared_refl : (a : List ℕ) → compared a a ≡ Equal
unfolding compared
compared_refl [] = refl
compared_refl (x ∷ xs) = head_same x x (compared xs xs) refl ∙ compared_refl xs

pub same_equal : (a b : List ℕ) → compared a b ≡ Equal → a ≡ b
unfolding compared
same_equal [] [] h = refl
same_equal [] (y ∷ ys) h = cc
same_equal (x ∷ xs) [] h = cc
same_equal (x ∷ xs) (y ∷ ys) h =
    by_numbers x y
    (λ l. cc (head_less x y (compared xs ys) l))
    (λ l. cc (head_greater x y (compared xs ys) l))
    (λ e. let t : xs ≡ ys = same_equal xs ys (sym (head_same x y (compared xs ys) e) ∙ h) in cc)

pub greater_less : (a b : List ℕ) → compared a b ≡ Greater → compared b a ≡ Less
unfolding compared
greater_less [] [] h = cc
greater_less [] (y ∷ ys) h = cc
greater_less (x ∷ xs) [] h = refl
greater_less (x ∷ xs) (y ∷ ys) h =
    by_numbers x y
    (λ l. cc (head_less x y (compared xs ys) l))
    (λ l. head_less y x (compared ys xs) l)
    (λ e. head_same y x (compared ys xs) (sym e) ∙ greater_less xs ys (sym (head_same x y (compared xs ys) e) ∙ h))

pub less_greater : (a b : List ℕ) → compared a b ≡ Less → compared b a ≡ Greater
unfolding compared
less_greater [] [] h = cc
less_greater [] (y ∷ ys) h = refl
less_greater (x ∷ xs) [] h = cc
less_greater (x ∷ xs) (y ∷ ys) h =
    by_numbers x y
    (λ l. head_greater y x (compared ys xs) l)
    (λ l. cc (head_greater x y (compared xs ys) l))
    (λ e. head_same y x (compared ys xs) (sym e) ∙ less_greater xs ys (sym (head_same x y (compared xs ys) e) ∙ h))

pub less_trans : (a b c : List ℕ) → compared a b ≡ Less → compared b c ≡ Less → compared a c ≡ Less
unfolding compared
less_trans [] [] c h k = k
less_trans [] (y ∷ ys) [] h k = cc
less_trans [] (y ∷ ys) (z ∷ zs) h k = refl
less_trans (x ∷ xs) [] c h k = cc
less_trans (x ∷ xs) (y ∷ ys) [] h k = cc
less_trans (x ∷ xs) (y ∷ ys) (z ∷ zs) h k =
    by_numbers x y
    (λ l.
    by_numbers y z
    (λ m. head_less x z (compared xs zs) (omega arith))
    (λ m. cc (head_greater y z (compared ys zs) m))
    (λ m. head_less x z (compared xs zs) (omega arith)))
    (λ l. cc (head_greater x y (compared xs ys) l))
    (λ l.
    by_numbers y z
    (λ m. head_less x z (compared xs zs) (omega arith))
    (λ m. cc (head_greater y z (compared ys zs) m))
    (λ m.
    head_same x z (compared xs zs) (l ∙ m)
    ∙ less_trans xs ys zs (sym (head_same x y (compared xs ys) l) ∙ h) (sym (head_same y z (compared ys zs) m) ∙ k)))
