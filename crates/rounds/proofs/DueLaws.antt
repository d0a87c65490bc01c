-- What is recorded of due tags, one tag at a time.
use mathlib.Core.Path.{◌≡◌, refl, ap, ◌∙◌}
use mathlib.Core.Bool.{Bool}
use mathlib.Core.List.{List, [], ◌∷◌}
use Prim.Native.Nat.{ℕ, zero, suc, ◌+◌, ◌≤◌, ◌<◌}
use native.Mathlib.Numerals.{add-one}
use lib.Ieee.{Float}
use lib.ListN.{length, get_or, set, drop, length-set, drop_of_length-le}
use lib.Seq.{drop-cons}
use Rattle.std.specs.Prelude.{Option}
use Rattle.table.specs.Tag.{fresh_tag}
use Rattle.table.specs.Table.{with_last}
use Rattle.table.specs.declared.tag.GroupRate.{GroupRate}
use Rattle.table.specs.declared.tag.Tag.{Tag}
use Rattle.groups.specs.Groups.{Groups}
use Rattle.rounds.specs.Due.{marked, recorded_due, seen_with, noted_due}

-- ---- the last reading time

module _ (tags : List Tag) (clock : Float) (l : List ℕ) (i : ℕ) where
  pub marked_more : (k : ℕ) → i < length l → k ≡ get_or l i 0
      → marked tags clock (drop i l) ≡ marked (set tags k (with_last (get_or tags k fresh_tag) clock)) clock (drop (i + 1) l)
  unfolding marked
  marked_more k h e = rw (add-one i, drop-cons l i 0 h, ← e)

  pub marked_end : length l ≤ i → marked tags clock (drop i l) ≡ tags
  unfolding marked
  marked_end h = ap (marked tags clock) (drop_of_length-le l {i = i} h)

pub marked_long : (tags : List Tag) (clock : Float) (ks : List ℕ) → length (marked tags clock ks) ≡ length tags
unfolding marked
marked_long tags clock [] = refl
marked_long tags clock (k ∷ ks) = marked_long (set tags k (with_last (get_or tags k fresh_tag) clock)) clock ks ∙ length-set tags k (with_last (get_or tags k fresh_tag) clock)

-- a part of a tag that a reading time leaves alone
module _ {A : Type 0} (part : Tag → A) where
  set-part : (tags : List Tag) (k : ℕ) (x : Tag) → part x ≡ part (get_or tags k fresh_tag) → (j : ℕ) → part (get_or (set tags k x) j fresh_tag) ≡ part (get_or tags j fresh_tag)
  set-part [] k x e j = refl
  set-part (y ∷ l) zero x e zero = e
  set-part (y ∷ l) zero x e (suc j) = refl
  set-part (y ∷ l) (suc k) x e zero = refl
  set-part (y ∷ l) (suc k) x e (suc j) = set-part l k x e j

  pub marked-part : (clock : Float) → ((x : Tag) → part (with_last x clock) ≡ part x) → (tags : List Tag) (ks : List ℕ) (j : ℕ)
      → part (get_or (marked tags clock ks) j fresh_tag) ≡ part (get_or tags j fresh_tag)
  unfolding marked
  marked-part clock h tags [] j = refl
  marked-part clock h tags (k ∷ ks) j =
      marked-part clock h (set tags k (with_last (get_or tags k fresh_tag) clock)) ks j ∙ set-part tags k (with_last (get_or tags k fresh_tag) clock) (h (get_or tags k fresh_tag)) j

-- ---- the groups

module _ (tags : List Tag) (clock : Float) (seen : List Bool) (G : Groups) (l : List ℕ) (i : ℕ) where
  pub recorded_more : (g : Option GroupRate) → i < length l → g ≡ (get_or tags (get_or l i 0) fresh_tag).settings.group
      → recorded_due tags clock seen G (drop i l) ≡ recorded_due tags clock (seen_with seen g) (noted_due G seen g clock) (drop (i + 1) l)
  unfolding recorded_due
  recorded_more g h e = rw (add-one i, drop-cons l i 0 h, e)

  pub recorded_end : length l ≤ i → recorded_due tags clock seen G (drop i l) ≡ G
  unfolding recorded_due
  recorded_end h = ap (recorded_due tags clock seen G) (drop_of_length-le l {i = i} h)
