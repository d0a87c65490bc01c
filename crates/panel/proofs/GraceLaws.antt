-- Rule 11: a tag in grace is stored as tier 2, because that is its tier in every table that tier calls make.
use mathlib.Core.Path.{◌≡◌, refl, ap, sym, ◌∙◌}
use mathlib.Core.Bool.{Bool, true, false, cond, true≢false}
use mathlib.Core.List.{List}
use Prim.Native.Nat.{ℕ, ◌<◌}
use borrow.Author.Tests.{eqb-true, eqb-false}
use lib.Dec.{eqb}
use lib.Ieee.{Float, le, add, binary64}
use lib.ListN.{length, get_or, set}
use lib.Seq.{get_or-set_same, get_or-set_other}
use Rattle.std.specs.Prelude.{is_some, Some}
use Rattle.table.specs.Tag.{f0, no_grace, fresh_tag}
use Rattle.table.specs.Table.{with_grace, with_after}
use Rattle.table.specs.declared.tag.Tag.{Tag}
use Rattle.tiers.specs.Tiers.{tag_set, put_table, set_table, grace_until, enter_grace, change_grace, set_tier}
use Rattle.board.specs.Board.{Table, tag_at, is_bit}
use Rattle.panel.specs.Panel.{Graced}

-- one tag replaced by one that is in tier 2 if it is in grace
put : (T E : Table) (k : ℕ) (x : Tag) → k < length T.tags → E.tags ≡ set T.tags k x → ((is_some x.grace) ≡ true → x.tier ≡ 2) → Graced T → Graced E
put T E k x h e new old j on = go (eqb j k) refl
  where
    at_j : tag_at E j ≡ get_or (set T.tags k x) j fresh_tag
    at_j = ap (λ (l : List Tag). get_or l j fresh_tag) e

    go : (b : Bool) → eqb j k ≡ b → (tag_at E j).tier ≡ 2
    go true q =
        let s : tag_at E j ≡ x = at_j ∙ ap (λ (i : ℕ). get_or (set T.tags k x) i fresh_tag) (eqb-true j k q) ∙ get_or-set_same T.tags k x fresh_tag h in
        ap (λ (y : Tag). y.tier) s ∙ new (sym (ap (λ (y : Tag). (is_some y.grace)) s) ∙ on)
    go false q =
        let s : tag_at E j ≡ tag_at T j = at_j ∙ get_or-set_other T.tags k j x fresh_tag (eqb-false j k q) in
        ap (λ (y : Tag). y.tier) s ∙ old j (sym (ap (λ (y : Tag). (is_some y.grace)) s) ∙ on)

either : (b : Bool) (x y : Table) → (b ≡ true → Graced x) → (b ≡ false → Graced y) → Graced (cond b x y)
either true x y p q = p refl
either false x y p q = q refl

module _ (T : Table) (g : Graced T) (k : ℕ) (h : k < length T.tags) where
  graced_set : (tier : ℕ) → Graced (set_table T k tier)
  unfolding put_table tag_set
  graced_set tier = put T (set_table T k tier) k (with_grace (tag_set (tag_at T k) (is_bit T k) tier) no_grace) h refl (λ e. absurd (true≢false (sym e))) g

  graced_enter : (deadline : Float) (after : ℕ) → Graced (enter_grace T k deadline after)
  unfolding enter_grace put_table tag_set
  graced_enter deadline after =
      put T (enter_grace T k deadline after) k (with_grace (tag_set (tag_at T k) (is_bit T k) 2) (Some (grace_until deadline after))) h refl (λ e. refl) g

  graced_change : (after : ℕ) → (is_some (tag_at T k).grace) ≡ true → Graced (change_grace T k after)
  graced_change after on = put T (change_grace T k after) k (with_after (tag_at T k) after) h refl (λ e. g k on) g

  -- Rule 5: a tier call keeps every tag in grace in tier 2.
  pub graced_tier : (tier : ℕ) (grace clock : Float) → Graced (set_tier T k tier grace clock)
  unfolding set_tier
  graced_tier tier grace clock =
      let now = graced_set tier in
      either (eqb tier 1) _ _ (λ e. now)
      (λ e. either (eqb tier 2) _ _ (λ e. now)
      (λ e. either (le grace f0) _ _ (λ e. now)
      (λ e. either (eqb (tag_at T k).tier 1) _ _ (λ e. graced_enter (add binary64 clock grace) tier)
      (λ e. either (is_some (tag_at T k).grace) _ _ (λ on. graced_change tier on) (λ e. now)))))
