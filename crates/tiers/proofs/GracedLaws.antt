-- Every tier change keeps the graces: a tag stands in their list exactly while it is in grace, and none is cut off.
use mathlib.Core.Path.{◌≡◌, refl, ap, sym, ◌∙◌}
use mathlib.Core.Bool.{Bool, true, false, cond}
use mathlib.Core.List.{List, [], ◌∷◌}
use Prim.Native.Nat.{ℕ, ◌≤◌, ◌<◌}
use native.Mathlib.Omega.{arith}
use borrow.Author.Tests.{eqb-true, eqb-false, eq-eqb, ne_eqb}
use lib.Dec.{eqb}
use lib.Ieee.{Float, le, add, binary64}
use lib.ListN.{length, get_or, set, length-set, get_or-eq_default}
use lib.Seq.{get_or-set_same, get_or-set_other}
use Rattle.std.specs.Prelude.{is_some, Some, Option, None}
use Rattle.lists.specs.Keep.{count, Below}
use Rattle.lists.proofs.KeepLaws.{count-append, count-without, count-without_other}
use Rattle.lists.proofs.CountLaws.{below_counts, length_few, length_fewer}
use Rattle.table.specs.declared.tag.Grace.{Grace}
use Rattle.tags.specs.Lists.{pushed}
use Rattle.tags.proofs.ListLaws.{pushed_more}
use Rattle.table.specs.Tag.{f0, no_grace, fresh_tag}
use Rattle.table.specs.Table.{with_grace, with_after, followed}
use Rattle.table.specs.declared.tag.Tag.{Tag}
use Rattle.tiers.specs.Tiers.{tag_set, grace_ended, put_table, set_table, grace_until, enter_grace, change_grace, set_tier}
use Rattle.board.specs.Board.{Table, tag_at, is_bit}
use Rattle.tiers.specs.Graced.{Graced}

few_if : (b : Bool) → cond b 1 0 ≤ 1
few_if true = omega arith
few_if false = omega arith

-- the graces once that of k has ended
module _ (graces : List ℕ) (k : ℕ) where
  ended_same : (on : Bool) → count k graces ≡ cond on 1 0 → count k (grace_ended graces k on) ≡ 0
  unfolding grace_ended
  ended_same true e = count-without k graces
  ended_same false e = e

  ended_other : (on : Bool) (j : ℕ) → (j ≡ k → ⊥) → count j (grace_ended graces k on) ≡ count j graces
  unfolding grace_ended
  ended_other true j d = count-without_other k j graces d
  ended_other false j d = refl

module _ (T : Table) (g : Graced T) where
  pub graces_once : (k : ℕ) → count k T.graces ≤ 1
  graces_once k = omega (arith, g.once k, few_if (is_some (tag_at T k).grace))

  pub graces-below : Below (length T.tags) T.graces
  graces-below = below_counts (length T.tags) T.graces (λ k h. g.once k ∙ ap (λ (x : Tag). cond (is_some x.grace) 1 0) (get_or-eq_default T.tags fresh_tag h))

  -- no more tags are in grace than there are
  pub graces_few : length T.graces ≤ length T.tags
  graces_few = length_few (length T.tags) T.graces graces-below graces_once

  module _ (k : ℕ) (h : k < length T.tags) where
    abbrev ended : List ℕ
    ended = grace_ended T.graces k (is_some (tag_at T k).grace)

    ended_is : (j : ℕ) (b : Bool) → eqb j k ≡ b → count j ended ≡ cond b 0 (count j T.graces)
    ended_is j true e = let s : j ≡ k = eqb-true j k e in rw s (ended_same T.graces k (is_some (tag_at T k).grace) (g.once k))
    ended_is j false e = ended_other T.graces k (is_some (tag_at T k).grace) j (eqb-false j k e)

    -- there is room for one more
    ended_short : length ended < T.room
    ended_short =
        omega (
          arith,
          length_fewer (length T.tags) k ended
              (below_counts (length T.tags) ended (λ j b. ended_is j false (ne_eqb j k (λ e. omega arith)) ∙ g.once j ∙ ap (λ (x : Tag). cond (is_some x.grace) 1 0) (get_or-eq_default T.tags fresh_tag b)))
              (λ j. few j (eqb j k) refl)
              h
              (ended_is k true (eq-eqb k k refl)),
          g.enough,
        )
      where
        few : (j : ℕ) (b : Bool) → eqb j k ≡ b → count j ended ≤ 1
        few j true e = omega (arith, ended_is j true e)
        few j false e = omega (arith, ended_is j false e, graces_once j)

    -- the tag k replaced, and the graces by others
    replaced : (x : Tag) (graces : List ℕ) → count k graces ≡ cond (is_some x.grace) 1 0 → ((j : ℕ) → (j ≡ k → ⊥) → count j graces ≡ count j T.graces)
        → (j : ℕ) → count j graces ≡ cond (is_some (get_or (set T.tags k x) j fresh_tag).grace) 1 0
    replaced x graces here other j = go (eqb j k) refl
      where
        go : (b : Bool) → eqb j k ≡ b → count j graces ≡ cond (is_some (get_or (set T.tags k x) j fresh_tag).grace) 1 0
        go true e = let s : j ≡ k = eqb-true j k e in rw (s, get_or-set_same T.tags k x fresh_tag h) here
        go false e =
            let d : j ≡ k → ⊥ = eqb-false j k e in
            other j d ∙ g.once j ∙ ap (λ (y : Tag). cond (is_some y.grace) 1 0) (sym (get_or-set_other T.tags k j x fresh_tag d))

    -- Rule 5: a tag put in a tier at once: a grace ends.
    pub graced_set : (tier : ℕ) → Graced (set_table T k tier)
    unfolding put_table
    graced_set tier =
        let x = with_grace (tag_set (tag_at T k) (is_bit T k) tier) no_grace in
        record {
          once = replaced x ended (ended_is k true (eq-eqb k k refl)) (λ j d. ended_is j false (ne_eqb j k d));
          enough = rw (length-set T.tags k x) g.enough;
        }

    pub graced_enter : (deadline : Float) (after : ℕ) → Graced (enter_grace T k deadline after)
    unfolding enter_grace put_table
    graced_enter deadline after =
        let x = with_grace (tag_set (tag_at T k) (is_bit T k) 2) (Some (grace_until deadline after)) in
        record {
          once = replaced x (pushed T.room ended k) (pushed_is k true (eq-eqb k k refl)) (λ j d. pushed_is j false (ne_eqb j k d));
          enough = rw (length-set T.tags k x) g.enough;
        }
      where
        pushed_is : (j : ℕ) (b : Bool) → eqb j k ≡ b → count j (pushed T.room ended k) ≡ cond b 1 (count j T.graces)
        pushed_is j true e = rw (pushed_more T.room ended k ended_short, count-append j ended (k ∷ []), e) (omega (arith, ended_is j true e))
        pushed_is j false e = rw (pushed_more T.room ended k ended_short, count-append j ended (k ∷ []), e) (omega (arith, ended_is j false e))

    pub graced_change : (after : ℕ) → (is_some (tag_at T k).grace) ≡ true → Graced (change_grace T k after)
    graced_change after on =
        let x = with_after (tag_at T k) after in
        record { once = replaced x T.graces (g.once k ∙ ap (λ (b : Bool). cond b 1 0) (on ∙ sym (now_some (tag_at T k).grace))) (λ j d. refl); enough = rw (length-set T.tags k x) g.enough }
      where
        now_some : (h : Option Grace) → is_some (followed h after) ≡ true
        now_some None = refl
        now_some (Some h) = refl

    -- Rule 5: a tier call.
    pub graced_tier : (tier : ℕ) (grace clock : Float) → Graced (set_tier T k tier grace clock)
    unfolding set_tier
    graced_tier tier grace clock = go (eqb tier 1) (eqb tier 2) (le grace f0) (eqb (tag_at T k).tier 1) (is_some (tag_at T k).grace) refl
      where
        go : (one two none first on : Bool) → (is_some (tag_at T k).grace) ≡ on
            → Graced (cond one (set_table T k tier) (cond two (set_table T k tier) (cond none (set_table T k tier)
            (cond first (enter_grace T k (add binary64 clock grace) tier) (cond on (change_grace T k tier) (set_table T k tier))))))
        go true two none first on e = graced_set tier
        go false true none first on e = graced_set tier
        go false false true first on e = graced_set tier
        go false false false true on e = graced_enter (add binary64 clock grace) tier
        go false false false false true e = graced_change tier e
        go false false false false false e = graced_set tier
