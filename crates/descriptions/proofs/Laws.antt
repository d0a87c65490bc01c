-- Wants used up, and descriptions learnt, tag by tag.
use mathlib.Core.Path.{◌≡◌, ap, sym, ◌∙◌}
use mathlib.Core.Bool.{false}
use mathlib.Core.List.{List}
use Prim.Native.Nat.{ℕ, ◌+◌, ◌≤◌, ◌<◌}
use native.Mathlib.Numerals.{add-one}
use lib.ListN.{length, get_or, set, drop, drop_of_length-le}
use lib.Seq.{drop-cons, set-get_or}
use Rattle.memory.proofs.LoopLaws.{mapped, mapped_read, mapped_more}
use Rattle.table.specs.Tag.{fresh_tag}
use Rattle.table.specs.Table.{with_description}
use Rattle.table.specs.declared.tag.Description.{Description}
use Rattle.table.specs.declared.tag.Tag.{Tag}
use Rattle.descriptions.specs.Descriptions.{unwanted, known_from}

-- ---- wants: a table T of which the first i tags of l are looked at

unwanted_already : (x : Tag) → x.wants ≡ false → unwanted x ≡ x
unwanted_already x e = rw (← e)

module _ (l : List Tag) (i : ℕ) (T : List Tag) (done : T ≡ mapped unwanted i l) (h : i < length l) where
  pub unwanted_put : set T i (unwanted (get_or T i fresh_tag)) ≡ mapped unwanted (i + 1) l
  unwanted_put =
      ap (λ (r : List Tag). set r i (unwanted (get_or r i fresh_tag))) done
      ∙ ap (λ (x : Tag). set (mapped unwanted i l) i (unwanted x)) (mapped_read unwanted l i fresh_tag h)
      ∙ mapped_more unwanted l i fresh_tag h

  pub unwanted-kept : (get_or T i fresh_tag).wants ≡ false → T ≡ mapped unwanted (i + 1) l
  unwanted-kept e =
      sym (set-get_or T i fresh_tag)
      ∙ ap (set T i) (sym (unwanted_already (get_or T i fresh_tag) e))
      ∙ unwanted_put

-- ---- descriptions: i tags of xs are known

module _ (f : ℕ → Description) (xs : List ℕ) (i : ℕ) (tags : List Tag) where
  pub known_more : (k : ℕ) (d : Description) → i < length xs → k ≡ get_or xs i 0 → d ≡ f i
      → known_from f i (drop i xs) tags ≡ known_from f (i + 1) (drop (i + 1) xs) (set tags k (with_description (get_or tags k fresh_tag) d))
  unfolding known_from
  known_more k d h e g = rw (e, g, drop-cons xs i 0 h, add-one)

  pub known_end : length xs ≤ i → known_from f i (drop i xs) tags ≡ tags
  unfolding known_from
  known_end h = ap (λ (l : List ℕ). known_from f i l tags) (drop_of_length-le xs {i = i} h)
