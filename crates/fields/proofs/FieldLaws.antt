-- A row with some cells replaced holds the tag with that part replaced.
use mathlib.Core.Path.{◌≡◌, refl, ap, subst}
use mathlib.Core.List.{List}
use Prim.Native.Nat.{ℕ, ◌%◌}
use borrow.Author.Tests.{ne_eqb}
use lib.Dec.{ltb}
use lib.Ieee.{binary64, of_bits}
use lib.ListN.{length, get_or, set}
use Rattle.memory.proofs.RowLaws.{spread, spread_is}
use Rattle.words.specs.Time.{time_from}
use Rattle.table.specs.Row.{grace_from, description_from, tag_from}
use Rattle.table.specs.Table.{with_grace, with_last, with_mark, with_added, with_wants, with_description, followed, with_after, with_standing, without_last}

-- words of a grace with another tier following hold that grace so
grace_followed : (on deadline after v : ℕ) → (on ≡ 0 → ⊥) → grace_from on deadline v ≡ followed (grace_from on deadline after) (v % 256)
grace_followed on deadline after v in_grace = rw (ne_eqb on 0 in_grace)

-- words of a grace that begins where there was none
grace_begun : (on deadline after v : ℕ) → on ≡ 0 → grace_from 1 0 v ≡ followed (grace_from on deadline after) (v % 256)
grace_begun on deadline after v none = rw none

module _ (w : List ℕ) (h : length w ≡ 32) where
  pub added_put : (v : ℕ) → tag_from (set w 8 v) ≡ with_added (tag_from w) (ltb 0 v)
  unfolding tag_from spread
  added_put v = subst (λ (r : List ℕ). tag_from (set r 8 v) ≡ with_added (tag_from r) (ltb 0 v)) (spread_is 32 w h) refl

  pub last_put : (v : ℕ) → tag_from (set (set w 4 1) 5 v) ≡ with_last (tag_from w) (of_bits binary64 v)
  unfolding tag_from spread
  last_put v = subst (λ (r : List ℕ). tag_from (set (set r 4 1) 5 v) ≡ with_last (tag_from r) (of_bits binary64 v)) (spread_is 32 w h) refl

  pub mark_put : (u v : ℕ) → tag_from (set (set w 6 u) 7 v) ≡ with_mark (tag_from w) (time_from u v)
  unfolding tag_from spread
  mark_put u v = subst (λ (r : List ℕ). tag_from (set (set r 6 u) 7 v) ≡ with_mark (tag_from r) (time_from u v)) (spread_is 32 w h) refl

  pub wants_put : (v : ℕ) → tag_from (set w 9 v) ≡ with_wants (tag_from w) (ltb 0 v)
  unfolding tag_from spread
  wants_put v = subst (λ (r : List ℕ). tag_from (set r 9 v) ≡ with_wants (tag_from r) (ltb 0 v)) (spread_is 32 w h) refl

  pub description_put : (v : ℕ) → tag_from (set w 10 v) ≡ with_description (tag_from w) (description_from v)
  unfolding tag_from spread
  description_put v = subst (λ (r : List ℕ). tag_from (set r 10 v) ≡ with_description (tag_from r) (description_from v)) (spread_is 32 w h) refl

  pub after_put : (v : ℕ) → (get_or w 1 0 ≡ 0 → ⊥) → tag_from (set w 3 v) ≡ with_after (tag_from w) (v % 256)
  unfolding tag_from spread
  after_put v =
      subst (λ (r : List ℕ). (get_or r 1 0 ≡ 0 → ⊥) → tag_from (set r 3 v) ≡ with_after (tag_from r) (v % 256)) (spread_is 32 w h)
      (λ in_grace. ap (with_grace (tag_from (spread 32 w))) (grace_followed _ _ _ v in_grace))

  pub after_begun : (v : ℕ) → get_or w 1 0 ≡ 0 → tag_from (set (set (set w 1 1) 2 0) 3 v) ≡ with_after (tag_from w) (v % 256)
  unfolding tag_from spread
  after_begun v =
      subst (λ (r : List ℕ). get_or r 1 0 ≡ 0 → tag_from (set (set (set r 1 1) 2 0) 3 v) ≡ with_after (tag_from r) (v % 256)) (spread_is 32 w h)
      (λ none. ap (with_grace (tag_from (spread 32 w))) (grace_begun _ _ _ v none))

  pub standing_put : (tier on deadline after added wants : ℕ)
      → tag_from (set (set (set (set (set (set w 0 tier) 1 on) 2 deadline) 3 after) 8 added) 9 wants)
      ≡ with_standing (tag_from w) (tier % 256) (grace_from on deadline after) (ltb 0 added) (ltb 0 wants)
  unfolding tag_from spread
  standing_put tier on deadline after added wants = subst (λ (r : List ℕ). tag_from (set (set (set (set (set (set r 0 tier) 1 on) 2 deadline) 3 after) 8 added) 9 wants) ≡ with_standing (tag_from r) (tier % 256) (grace_from on deadline after) (ltb 0 added) (ltb 0 wants)) (spread_is 32 w h) refl

  pub last_forgotten : tag_from (set w 4 0) ≡ without_last (tag_from w)
  unfolding tag_from spread
  last_forgotten = subst (λ (r : List ℕ). tag_from (set r 4 0) ≡ without_last (tag_from r)) (spread_is 32 w h) refl
