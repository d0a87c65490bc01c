-- Every tier change keeps the table listed.
use mathlib.Core.Path.{◌≡◌, refl, ap, sym, ◌∙◌}
use mathlib.Core.Bool.{Bool, true, false, not, cond}
use mathlib.Core.List.{List, [], ◌∷◌, ◌++◌}
use Prim.Native.Nat.{ℕ, zero, suc, ◌+◌, ◌≤◌, ◌<◌}
use native.Mathlib.Omega.{arith}
use borrow.Author.Tests.{eqb-true, eqb-false, eq-eqb, ne_eqb, lt-ltb}
use lib.Dec.{eqb, ltb}
use lib.Ieee.{Float, le, add, binary64}
use lib.ListN.{length, get_or, set, length-set, get_or-eq_default}
use lib.Seq.{get_or-set_same, get_or-set_other}
use Rattle.std.specs.Prelude.{Option, Some, is_some}
use Rattle.lists.specs.Keep.{count, Below}
use Rattle.lists.proofs.KeepLaws.{count-append, count-without, count-without_other, below-append, below-keep}
use Rattle.lists.proofs.CountLaws.{below_counts, length_fewer}
use Rattle.tags.specs.Lists.{pushed}
use Rattle.table.specs.Tag.{f0, no_grace, fresh_tag}
use Rattle.table.specs.Table.{with_grace, with_after}
use Rattle.table.specs.declared.tag.Grace.{Grace}
use Rattle.table.specs.declared.tag.Tag.{Tag}
use Rattle.tiers.specs.Tiers.{tag_set, order_set, grace_ended, put_table, set_table, with_tag_graces, grace_until, enter_grace, change_grace, set_tier}
use Rattle.board.specs.Board.{Table, tag_at, is_bit}
use Rattle.tiers.specs.Listed.{in_tier, Listed}

few_in : (n : ℕ) → in_tier n ≤ 1
few_in zero = omega arith
few_in (suc n) = omega arith

-- the tag at j after the tag at k was replaced
module _ (tags : List Tag) (k : ℕ) (x : Tag) where
  at_same : k < length tags → get_or (set tags k x) k fresh_tag ≡ x
  at_same h = get_or-set_same tags k x fresh_tag h

  at_other : (j : ℕ) → (j ≡ k → ⊥) → get_or (set tags k x) j fresh_tag ≡ get_or tags j fresh_tag
  at_other j n = get_or-set_other tags k j x fresh_tag n

-- ---- the order

one_more : (j k : ℕ) (l : List ℕ) (b : Bool) → eqb j k ≡ b → count j (l ++ (k ∷ [])) ≡ count j l + cond b 1 0
one_more j k l b e = rw (count-append j l (k ∷ []), e) (omega arith)

module _ (n k : ℕ) (order : List ℕ) where
  order_same : (old new : ℕ) → count k order ≡ in_tier old → (old ≡ 0 → length order < n) → count k (order_set n order k old new) ≡ in_tier new
  unfolding order_set
  order_same zero zero c r = c
  order_same zero (suc m) c r =
      rw (ne_eqb (suc m) 0 (λ e. omega arith), lt-ltb (length order) n (r refl)) (omega (arith, one_more k k order true (eq-eqb k k refl)))
  order_same (suc o) zero c r = rw (ne_eqb (suc o) 0 (λ e. omega arith)) (count-without k order)
  order_same (suc o) (suc m) c r = rw (ne_eqb (suc o) 0 (λ e. omega arith), ne_eqb (suc m) 0 (λ e. omega arith)) c

  order_other : (old new j : ℕ) → (j ≡ k → ⊥) → count j (order_set n order k old new) ≡ count j order
  unfolding order_set
  order_other zero zero j d = refl
  order_other zero (suc m) j d = rw (ne_eqb (suc m) 0 (λ e. omega arith)) (go (ltb (length order) n))
    where
      go : (b : Bool) → count j (cond b (order ++ (k ∷ [])) order) ≡ count j order
      go true = omega (arith, one_more j k order false (ne_eqb j k d))
      go false = refl
  order_other (suc o) zero j d = rw (ne_eqb (suc o) 0 (λ e. omega arith)) (count-without_other k j order d)
  order_other (suc o) (suc m) j d = rw (ne_eqb (suc o) 0 (λ e. omega arith), ne_eqb (suc m) 0 (λ e. omega arith))

below-ended : (n k : ℕ) (graces : List ℕ) (on : Bool) → Below n graces → Below n (grace_ended graces k on)
unfolding grace_ended
below-ended n k graces true b = below-keep n (λ (x : ℕ). not (eqb k x)) graces b
below-ended n k graces false b = b

-- ---- a tag that has no tier finds room

module _ (T : Table) (l : Listed T) where
  order_once : (k : ℕ) → count k T.order ≤ 1
  order_once k = omega (arith, l.once k, few_in (tag_at T k).tier)

  pub order_below : Below (length T.tags) T.order
  order_below = below_counts (length T.tags) T.order (λ k h. l.once k ∙ ap (λ (x : Tag). in_tier x.tier) (get_or-eq_default T.tags fresh_tag h))

  order-room : (k : ℕ) → k < length T.tags → (tag_at T k).tier ≡ 0 → length T.order < T.room
  order-room k h z = omega (arith, length_fewer (length T.tags) k T.order order_below order_once h (l.once k ∙ ap in_tier z), l.enough)

  -- a tag put in a tier, with a grace or none
  listed_put : (k tier : ℕ) (g : Option Grace) → k < length T.tags → Listed (put_table T k tier g)
  unfolding put_table tag_set
  listed_put k tier g h = record {
    once = λ j. go j (eqb j k) refl;
    graced = rw (length-set T.tags k x) (below-ended (length T.tags) k T.graces (is_some (tag_at T k).grace) l.graced);
    enough = rw (length-set T.tags k x) l.enough;
  }
    where
      x : Tag
      x = with_grace (tag_set (tag_at T k) (is_bit T k) tier) g

      go : (j : ℕ) (b : Bool) → eqb j k ≡ b → count j (order_set T.room T.order k (tag_at T k).tier tier) ≡ in_tier (get_or (set T.tags k x) j fresh_tag).tier
      go j true e =
          let s : j ≡ k = eqb-true j k e in
          rw (s, at_same T.tags k x h) (order_same T.room k T.order (tag_at T k).tier tier (l.once k) (order-room k h))
      go j false e =
          let d : j ≡ k → ⊥ = eqb-false j k e in
          order_other T.room k T.order (tag_at T k).tier tier j d ∙ l.once j ∙ ap (λ (y : Tag). in_tier y.tier) (sym (at_other T.tags k x j d))

  -- Rule 5: a tag put in a tier at once.
  pub listed-set : (k tier : ℕ) → k < length T.tags → Listed (set_table T k tier)
  listed-set k tier h = listed_put k tier no_grace h

-- a tag replaced by one in the same tier, and other graces
listed_tag : (T : Table) → Listed T → (k : ℕ) (x : Tag) (graces : List ℕ) → k < length T.tags → x.tier ≡ (tag_at T k).tier → Below (length T.tags) graces
    → Listed (with_tag_graces T k x graces)
listed_tag T l k x graces h e b = record {
  once = λ j. go j (eqb j k) refl;
  graced = rw (length-set T.tags k x) b;
  enough = rw (length-set T.tags k x) l.enough;
}
  where
    go : (j : ℕ) (t : Bool) → eqb j k ≡ t → count j T.order ≡ in_tier (get_or (set T.tags k x) j fresh_tag).tier
    go j true q = let s : j ≡ k = eqb-true j k q in rw (s, at_same T.tags k x h, e) (l.once k)
    go j false q = l.once j ∙ ap (λ (y : Tag). in_tier y.tier) (sym (at_other T.tags k x j (eqb-false j k q)))

below-pushed : (m n k : ℕ) (l : List ℕ) → Below m l → k < m → Below m (pushed n l k)
below-pushed m n k l b h = go (ltb (length l) n)
  where
    go : (t : Bool) → Below m (cond t (l ++ (k ∷ [])) l)
    go true = below-append m l (k ∷ []) b (h, tt)
    go false = b

either : (P : Table → Type 0) (b : Bool) (x y : Table) → P x → P y → P (cond b x y)
either P true x y p q = p
either P false x y p q = q

module _ (T : Table) (l : Listed T) (k : ℕ) (h : k < length T.tags) where
  pub put_long : (tier : ℕ) (g : Option Grace) → length (put_table T k tier g).tags ≡ length T.tags
  unfolding put_table
  put_long tier g = length-set T.tags k (with_grace (tag_set (tag_at T k) (is_bit T k) tier) g)

  pub set_long : (tier : ℕ) → length (set_table T k tier).tags ≡ length T.tags
  set_long tier = put_long tier no_grace

  pub listed_enter : (deadline : Float) (after : ℕ) → Listed (enter_grace T k deadline after)
  unfolding enter_grace
  listed_enter deadline after =
      let m = put_table T k 2 (Some (grace_until deadline after)) in
      let lm : Listed m = listed_put T l k 2 (Some (grace_until deadline after)) h in
      let hm : k < length m.tags = rw (put_long 2 (Some (grace_until deadline after))) h in
      record { once = lm.once; graced = below-pushed (length m.tags) m.room k m.graces lm.graced hm; enough = lm.enough }

  pub listed_change : (after : ℕ) → Listed (change_grace T k after)
  listed_change after = listed_tag T l k (with_after (tag_at T k) after) T.graces h refl l.graced

  -- Rule 5: a tier call.
  pub listed_tier : (tier : ℕ) (grace clock : Float) → Listed (set_tier T k tier grace clock)
  unfolding set_tier
  listed_tier tier grace clock =
      let now = listed-set T l k tier h in
      either Listed (eqb tier 1) _ _ now
      (either Listed (eqb tier 2) _ _ now
      (either Listed (le grace f0) _ _ now
      (either Listed (eqb (tag_at T k).tier 1) _ _ (listed_enter (add binary64 clock grace) tier)
      (either Listed (is_some (tag_at T k).grace) _ _ (listed_change tier) now))))
