-- The bytes of a written panel list.
use mathlib.Core.Path.{◌≡◌, refl, ap, sym, ◌∙◌}
use mathlib.Core.List.{List, map, [], ◌∷◌, ◌++◌}
use Prim.Native.Nat.{ℕ, zero, suc, ◌+◌, ◌-◌, ◌%◌, ◌≤◌, ◌<◌}
use native.Mathlib.Nat.{zero-add}
use native.Mathlib.Omega.{arith}
use borrow.Author.Tests.{le-leb, lt-leb}
use lib.ListN.{length, get_or, drop, length-append, length-map, get_or-eq_default, get_or-append}
use lib.Seq.{paste, take_all, get_or-append-add}
use Rattle.table.specs.declared.tag.Tag.{Tag}
use Rattle.panel.specs.Panel.{tier_in, panel_of, panel_room, written, written_length}

-- within a list the default is not read
map_at : (f : ℕ → ℕ) (l : List ℕ) (i d : ℕ) → i < length l → get_or (map f l) i d ≡ f (get_or l i 0)
map_at f [] i d h = absurd (omega arith)
map_at f (x ∷ l) zero d h = refl
map_at f (x ∷ l) (suc i) d h = map_at f l i d (omega arith)

module _ (tags : List Tag) (order : List ℕ) where
  low : List ℕ
  low = map (λ (k : ℕ). k % 256) order

  pub length_panel : length (panel_of tags order) ≡ panel_room (length order)
  unfolding panel_of
  length_panel = simp (length-append, length-map) (omega arith)

  pub panel_count : (p : ℕ) → p ≡ 0 → length order % 256 ≡ get_or (panel_of tags order) p 0
  unfolding panel_of
  panel_count p e = rw e

  pub panel_tag : (p : ℕ) → (p ≡ 0 → ⊥) → p ≤ length order → get_or order (p - 1) 0 % 256 ≡ get_or (panel_of tags order) p 0
  unfolding panel_of low
  panel_tag zero n h = absurd (n refl)
  panel_tag (suc i) n h =
      let down : suc i - 1 ≡ i = omega arith in
      rw down
      (sym
      (get_or-append low (map (tier_in tags) order) 0 i (omega (arith, length-map order (λ (k : ℕ). k % 256)))
      ∙ map_at (λ (k : ℕ). k % 256) order i 0 (omega arith)))

  pub panel_tier : (p : ℕ) → length order < p → p - length order ≤ length order → tier_in tags (get_or order (p - length order - 1) 0) ≡ get_or (panel_of tags order) p 0
  unfolding panel_of low
  panel_tier zero g h = absurd (omega arith)
  panel_tier (suc i) g h =
      let j : ℕ = suc i - length order - 1 in
      let place : i ≡ length low + j = omega (arith, length-map order (λ (k : ℕ). k % 256)) in
      sym
      (ap (λ (q : ℕ). get_or (low ++ map (tier_in tags) order) q 0) place
      ∙ get_or-append-add low (map (tier_in tags) order) j 0
      ∙ map_at (tier_in tags) order j 0 (omega arith))

  pub panel_past : (p : ℕ) → length order < p → length order < p - length order → 0 ≡ get_or (panel_of tags order) p 0
  panel_past p g h = sym (get_or-eq_default (panel_of tags order) 0 (omega (arith, length_panel)))

-- ---- written where there is room

module _ (out bytes : List ℕ) where
  pub short_length : length out < length bytes → 0 ≡ written_length out bytes
  unfolding written_length
  short_length h = rw (lt-leb _ _ h)

  pub short_kept : length out < length bytes → out ≡ written out bytes
  unfolding written
  short_kept h = rw (lt-leb _ _ h)

  pub full_length : length bytes ≤ length out → length bytes ≡ written_length out bytes
  unfolding written_length
  full_length h = rw (le-leb _ _ h)

  pub full_put : (p : ℕ) → p ≡ length bytes → length bytes ≤ length out → paste out 0 bytes p ≡ written out bytes
  unfolding written
  full_put p e h = rw (le-leb _ _ h, e, take_all (length bytes) bytes (omega arith)) (ap (λ (n : ℕ). bytes ++ drop n out) (zero-add (length bytes)))
