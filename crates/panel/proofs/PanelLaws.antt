-- The parts of a panel list, and each definition that goes along it at the place where a loop stands.
use mathlib.Core.Path.{◌≡◌, refl, ap, ◌∙◌}
use mathlib.Core.Bool.{cond}
use mathlib.Core.List.{List, [], ◌∷◌}
use Prim.Native.Nat.{ℕ, ◌+◌, ◌-◌, ◌≤◌, ◌<◌}
use native.Mathlib.Numerals.{add-one}
use native.Mathlib.Omega.{arith}
use lib.Dec.{leb}
use lib.Ieee.{Float}
use lib.ListN.{length, get_or, take, drop, length-take, length-drop, drop_of_length-le, get_or-eq_default}
use lib.Seq.{drop-cons, take-suc, get_or-take, get_or-drop}
use borrow.Author.Tests.{eq-eqb, ne_eqb}
use Rattle.tags.specs.Lists.{member}
use Rattle.tiers.specs.Tiers.{set_tier}
use Rattle.board.specs.Board.{Table}
use Rattle.panel.specs.Panel.{count_in, tags_of, tiers_of, panel_room, bad_tier, entry_check, panel_check, loaded}

-- ---- the parts

pub tags_at : (s : List ℕ) (i : ℕ) → i < count_in s → get_or (tags_of s) i 0 ≡ get_or s (1 + i) 0
unfolding tags_of
tags_at s i h = get_or-take (count_in s) (drop 1 s) i 0 h ∙ get_or-drop 1 s i 0

pub tags_past : (s : List ℕ) (i : ℕ) → count_in s ≤ i → get_or (tags_of s) i 0 ≡ 0
unfolding tags_of
tags_past s i h = get_or-eq_default (take (count_in s) (drop 1 s)) 0 (omega (arith, length-take (count_in s) (drop 1 s)))

pub tiers_at : (s : List ℕ) (i : ℕ) → i < count_in s → get_or (tiers_of s) i 0 ≡ get_or s (1 + count_in s + i) 0
unfolding tiers_of
tiers_at s i h = get_or-take (count_in s) (drop (1 + count_in s) s) i 0 h ∙ get_or-drop (1 + count_in s) s i 0

pub tiers_past : (s : List ℕ) (i : ℕ) → count_in s ≤ i → get_or (tiers_of s) i 0 ≡ 0
unfolding tiers_of
tiers_past s i h = get_or-eq_default (take (count_in s) (drop (1 + count_in s) s)) 0 (omega (arith, length-take (count_in s) (drop (1 + count_in s) s)))

module _ (s : List ℕ) where
  pub tiers_none : length s ≤ 1 + count_in s → 0 ≡ length (tiers_of s)
  unfolding tiers_of
  tiers_none h = omega (arith, length-take (count_in s) (drop (1 + count_in s) s), length-drop (1 + count_in s) s)

  pub tiers_some : 1 + count_in s < length s → length s - (1 + count_in s) < count_in s → length s - (1 + count_in s) ≡ length (tiers_of s)
  unfolding tiers_of
  tiers_some g h = omega (arith, length-take (count_in s) (drop (1 + count_in s) s), length-drop (1 + count_in s) s)

  pub tiers_all : 1 + count_in s < length s → count_in s ≤ length s - (1 + count_in s) → count_in s ≡ length (tiers_of s)
  unfolding tiers_of
  tiers_all g h = omega (arith, length-take (count_in s) (drop (1 + count_in s) s), length-drop (1 + count_in s) s)

  pub tiers_fewer : length (tiers_of s) ≤ length (tags_of s)
  unfolding tags_of tiers_of
  tiers_fewer = omega (arith, length-take (count_in s) (drop (1 + count_in s) s), length-drop (1 + count_in s) s, length-take (count_in s) (drop 1 s), length-drop 1 s)

-- ---- check 51

module _ (count : ℕ) (s : List ℕ) where
  pub form_empty : length s ≡ 0 → 51 ≡ panel_check count s
  unfolding panel_check
  form_empty e = rw (eq-eqb (length s) 0 e)

  pub form_bad : (length s ≡ 0 → ⊥) → (length s ≡ panel_room (count_in s) → ⊥) → 51 ≡ panel_check count s
  unfolding panel_check
  form_bad z e = rw (ne_eqb (length s) 0 z, ne_eqb (length s) (panel_room (count_in s)) e)

  pub form_good : (length s ≡ 0 → ⊥) → length s ≡ panel_room (count_in s) → entry_check count [] (tags_of s) (tiers_of s) ≡ panel_check count s
  unfolding panel_check
  form_good z e = rw (ne_eqb (length s) 0 z, eq-eqb (length s) (panel_room (count_in s)) e)

-- ---- checks 53 to 55

check_none : (count : ℕ) (seen l : List ℕ) → entry_check count seen l [] ≡ 0
unfolding entry_check
check_none count seen [] = refl
check_none count seen (x ∷ l) = refl

module _ (count : ℕ) (ks ts : List ℕ) (i : ℕ) where
  pub check_more : i < length ks → i < length ts
      → entry_check count (take i ks) (drop i ks) (drop i ts)
      ≡ cond (leb count (get_or ks i 0)) 53 (cond (member (get_or ks i 0) (take i ks)) 54 (cond (bad_tier (get_or ts i 0)) 55 (entry_check count (take (i + 1) ks) (drop (i + 1) ks) (drop (i + 1) ts))))
  unfolding entry_check
  check_more h g = rw (drop-cons ks i 0 h, drop-cons ts i 0 g, add-one, take-suc ks i 0 h)

  pub check_end : length ts ≤ i → entry_check count (take i ks) (drop i ks) (drop i ts) ≡ 0
  check_end h = ap (entry_check count (take i ks) (drop i ks)) (drop_of_length-le ts {i = i} h) ∙ check_none count (take i ks) (drop i ks)

-- ---- loading

module _ (T : Table) (ks ts : List ℕ) (grace clock : Float) (i : ℕ) where
  pub load_more : i < length ks → i < length ts
      → loaded T (drop i ks) (drop i ts) grace clock ≡ loaded (set_tier T (get_or ks i 0) (get_or ts i 0) grace clock) (drop (i + 1) ks) (drop (i + 1) ts) grace clock
  unfolding loaded
  load_more h g = rw (drop-cons ks i 0 h, drop-cons ts i 0 g, add-one)

load_none : (T : Table) (ks : List ℕ) (grace clock : Float) → loaded T ks [] grace clock ≡ T
unfolding loaded
load_none T [] grace clock = refl
load_none T (k ∷ ks) grace clock = refl

pub load_end : (T : Table) (ks ts : List ℕ) (grace clock : Float) (i : ℕ) → length ts ≤ i → loaded T (drop i ks) (drop i ts) grace clock ≡ T
load_end T ks ts grace clock i h = ap (λ (l : List ℕ). loaded T (drop i ks) l grace clock) (drop_of_length-le ts {i = i} h) ∙ load_none T (drop i ks) grace clock
