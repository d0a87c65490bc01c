-- In rising names the rank is the byte order.
use mathlib.Core.Path.{◌≡◌, refl, ap, sym, ◌∙◌}
use mathlib.Core.Bool.{Bool, true, false, ◌&&◌}
use mathlib.Core.List.{List, [], ◌∷◌}
use Prim.Native.Nat.{ℕ, zero, suc, ◌<◌}
use native.Mathlib.Nat.{not-suc-le-zero, le_of_suc-le-suc}
use native.Mathlib.Omega.{arith}
use borrow.Author.Tests.{lt-ltb, le-ltb}
use lib.Dec.{ltb}
use lib.ListN.{length, get_or}
use Rattle.std.proofs.Common.{Less}
use Rattle.names.specs.Order.{compared, is_less}
use Rattle.names.specs.Directory.{rising_from, rising}
use Rattle.names.proofs.OrderLaws.{by_numbers, compared_refl, is_less_lem, less_greater, less_trans}

-- names after `before` are above it
pub rising_above : (before : List ℕ) (ns : List (List ℕ)) → rising_from before ns ≡ true → (k : ℕ) → k < length ns → compared before (get_or ns k []) ≡ Less
unfolding rising_from
rising_above before [] e k h = absurd (not-suc-le-zero h)
rising_above before (n ∷ ns) e k h = go (is_less (compared before n)) refl e (λ q j l. rising_above n ns q j l) k h
  where
    go : (t : Bool) → is_less (compared before n) ≡ t → (t && rising_from n ns) ≡ true
        → (rising_from n ns ≡ true → (j : ℕ) → j < length ns → compared n (get_or ns j []) ≡ Less) → (j : ℕ) → j < suc (length ns) → compared before (get_or (n ∷ ns) j []) ≡ Less
    go true d q again zero l = is_less_lem _ d
    go true d q again (suc j) l = less_trans before n (get_or ns j []) (is_less_lem _ d) (again q j (le_of_suc-le-suc l))
    go false d q again j l = cc

pub rising-rest : (n : List ℕ) (ns : List (List ℕ)) → rising (n ∷ ns) ≡ true → rising ns ≡ true
unfolding rising_from rising
rising-rest n [] e = refl
rising-rest n (m ∷ ns) e = go (is_less (compared n m)) e
  where
    go : (t : Bool) → (t && rising_from m ns) ≡ true → rising_from m ns ≡ true
    go true q = q
    go false q = cc

-- an earlier name is below a later one
pub rising_less : (ns : List (List ℕ)) (i j : ℕ) → rising ns ≡ true → i < j → j < length ns → compared (get_or ns i []) (get_or ns j []) ≡ Less
unfolding rising
rising_less [] i j e l h = absurd (not-suc-le-zero h)
rising_less (n ∷ ns) i zero e l h = absurd (not-suc-le-zero l)
rising_less (n ∷ ns) zero (suc j) e l h = rising_above n ns e j (le_of_suc-le-suc h)
rising_less (n ∷ ns) (suc i) (suc j) e l h = rising_less ns i j (rising-rest n ns e) (le_of_suc-le-suc l) (le_of_suc-le-suc h)

module _ (ns : List (List ℕ)) (i j : ℕ) (up : rising ns ≡ true) (hi : i < length ns) (hj : j < length ns) where
  -- a tag is below another exactly if its name is
  pub rank_order : is_less (compared (get_or ns i []) (get_or ns j [])) ≡ ltb i j
  rank_order =
      by_numbers i j
      (λ l. ap is_less (rising_less ns i j up l hj) ∙ sym (lt-ltb i j l))
      (λ l. ap is_less (less_greater (get_or ns j []) (get_or ns i []) (rising_less ns j i up l hi)) ∙ sym (le-ltb i j (omega arith)))
      (λ e. rw e (ap is_less (compared_refl (get_or ns j []))) ∙ sym (le-ltb i j (omega arith)))

  -- two tags have two names
  pub rank_same : get_or ns i [] ≡ get_or ns j [] → i ≡ j
  rank_same e =
      by_numbers i j
      (λ l. cc (rising_less ns i j up l hj, compared_refl (get_or ns j [])))
      (λ l. cc (rising_less ns j i up l hi, compared_refl (get_or ns j [])))
      (λ q. q)
