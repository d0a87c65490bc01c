-- Tables whose tags are in the same tiers, and the tier-2 tags in slice order.
use mathlib.Core.Path.{◌≡◌, refl, ap, sym, ◌∙◌}
use mathlib.Core.Bool.{Bool, true, false, cond}
use mathlib.Core.List.{List, [], ◌∷◌, map}
use Prim.Native.Nat.{ℕ, zero, suc}
use lib.Dec.{eqb}
use lib.ListN.{length, get_or, set}
use borrow.Author.Tests.{eqb-true}
use Rattle.lists.specs.Keep.{keep, count}
use Rattle.lists.specs.Sort.{sort}
use Rattle.lists.proofs.KeepLaws.{count-keep, count-keep_none}
use Rattle.lists.proofs.SortLaws.{count-sort}
use Rattle.memory.proofs.RowLaws.{map_at}
use Rattle.table.specs.Tag.{fresh_tag}
use Rattle.table.specs.declared.tag.Settings.{Settings}
use Rattle.table.specs.declared.tag.Tag.{Tag}
use Rattle.board.specs.Board.{Table, tag_at, with_tags}
use Rattle.tiers.specs.Listed.{in_tier, Listed}
use Rattle.slices.specs.Slice.{is_tier2, tier2_tags}

-- ---- the tiers of a table's tags

abbrev pub tiers : List Tag → List ℕ
tiers tags = map (λ (x : Tag). x.tier) tags

-- what g sees of the tags of a table stays, if it stays of each tag that is changed
module _ {A : Type 0} (g : Tag → A) where
  -- each tag changed
  pub map-kept : (f : Tag → Tag) → ((x : Tag) → g (f x) ≡ g x) → (tags : List Tag) → map g (map f tags) ≡ map g tags
  map-kept f h [] = refl
  map-kept f h (x ∷ l) = rw (h x, map-kept f h l)

  -- one tag changed
  pub set-kept : (tags : List Tag) (k : ℕ) (x : Tag) → g x ≡ g (get_or tags k fresh_tag) → map g (set tags k x) ≡ map g tags
  set-kept [] k x e = refl
  set-kept (y ∷ l) zero x e = rw e
  set-kept (y ∷ l) (suc k) x e = ap (λ (ts : List A). g y ∷ ts) (set-kept l k x e)

abbrev pub tier_of : Tag → ℕ
tier_of x = x.tier

abbrev pub settings_of : Tag → Settings
settings_of x = x.settings

-- a tag's tier and its settings
pub record Place : Type 0 where
  pub tier : ℕ
  pub settings : Settings

abbrev pub place_of : Tag → Place
place_of x = record { tier = x.tier; settings = x.settings }

abbrev pub places : List Tag → List Place
places tags = map place_of tags

-- where these stay, each of the two stays
pub places_tiers : (a b : List Tag) → places a ≡ places b → tiers a ≡ tiers b
places_tiers a b e = sym (of a) ∙ ap (map (λ (p : Place). p.tier)) e ∙ of b
  where
    of : (l : List Tag) → map (λ (p : Place). p.tier) (places l) ≡ tiers l
    of [] = refl
    of (x ∷ l) = ap (λ (ts : List ℕ). x.tier ∷ ts) (of l)

pub places_settings : (a b : List Tag) → places a ≡ places b → map settings_of a ≡ map settings_of b
places_settings a b e = sym (of a) ∙ ap (map (λ (p : Place). p.settings)) e ∙ of b
  where
    of : (l : List Tag) → map (λ (p : Place). p.settings) (places l) ≡ map settings_of l
    of [] = refl
    of (x ∷ l) = ap (λ (ts : List Settings). x.settings ∷ ts) (of l)

module _ (a b : List Tag) (e : tiers a ≡ tiers b) where
  -- each tag is in the same tier
  pub tier_same : (k : ℕ) → (get_or a k fresh_tag).tier ≡ (get_or b k fresh_tag).tier
  tier_same k = sym (map_at (λ (x : Tag). x.tier) a k fresh_tag) ∙ ap (λ (ts : List ℕ). get_or ts k 0) e ∙ map_at (λ (x : Tag). x.tier) b k fresh_tag

  -- there are as many tags
  pub tags_long : length a ≡ length b
  tags_long = sym (long a) ∙ ap length e ∙ long b
    where
      long : (l : List Tag) → length (tiers l) ≡ length l
      long [] = refl
      long (x ∷ l) = ap suc (long l)

-- a table with other records of its tags, each in the same tier
pub listed_tags : (T : Table) (tags : List Tag) → tiers tags ≡ tiers T.tags → Listed T → Listed (with_tags T tags)
listed_tags T tags e l = record {
  once = λ k. l.once k ∙ ap in_tier (sym (tier_same tags T.tags e k));
  graced = rw (tags_long tags T.tags e) l.graced;
  enough = rw (tags_long tags T.tags e) l.enough;
}

-- ---- the tier-2 tags

-- two tests that agree keep the same
keep_same : (p q : ℕ → Bool) → ((k : ℕ) → p k ≡ q k) → (l : List ℕ) → keep p l ≡ keep q l
unfolding keep
keep_same p q h [] = refl
keep_same p q h (x ∷ l) = rw (h x, keep_same p q h l)

module _ (less : ℕ → ℕ → Bool) where
  -- tables with the same tiers have the same tier-2 tags
  pub tier2_same : (a b : List Tag) → tiers a ≡ tiers b → (order : List ℕ) → tier2_tags less a order ≡ tier2_tags less b order
  tier2_same a b e order = ap (sort less) (keep_same (is_tier2 a) (is_tier2 b) (λ k. ap (λ (n : ℕ). eqb n 2) (tier_same a b e k)) order)

  -- the list names each tag in tier 2 once, and no other
  pub tier2_once : (T : Table) → Listed T → (t : ℕ) → count t (tier2_tags less T.tags T.order) ≡ cond (is_tier2 T.tags t) 1 0
  tier2_once T l t =
      count-sort less t (keep (is_tier2 T.tags) T.order)
      ∙ go (is_tier2 T.tags t) refl
    where
      go : (b : Bool) → is_tier2 T.tags t ≡ b → count t (keep (is_tier2 T.tags) T.order) ≡ cond b 1 0
      go true e = count-keep (is_tier2 T.tags) t T.order e ∙ l.once t ∙ ap in_tier (eqb-true (tag_at T t).tier 2 e)
      go false e = count-keep_none (is_tier2 T.tags) t T.order e
