-- A panel list written from a table and loaded into an empty one: the same order, and the same tier for each tag.
use mathlib.Core.Path.{◌≡◌, refl, ap, sym, ◌∙◌}
use mathlib.Core.Bool.{Bool, true, false, cond}
use mathlib.Core.List.{List, map, [], ◌∷◌, ◌++◌, append_assoc, append-nil}
use Prim.Native.Nat.{ℕ, zero, suc, ◌+◌, ◌%◌, ◌≤◌, ◌<◌}
use native.Mathlib.Nat.{mod-eq_of_lt}
use native.Mathlib.Omega.{arith}
use borrow.Author.Tests.{eqb-true, eq-eqb, ne_eqb, lt-ltb, ltb-true, ltb-false, le-ltb, lt-leb}
use lib.Dec.{eqb, ltb}
use lib.Ieee.{Float, le}
use lib.ListN.{length, take, drop, length-append, length-map, length-set}
use lib.Seq.{take_at, drop_at, take_all, get_or-set_same, get_or-set_other}
use Rattle.std.specs.Prelude.{is_some}
use Rattle.lists.specs.Keep.{count, Below}
use Rattle.lists.proofs.KeepLaws.{below_more, count-append}
use Rattle.lists.proofs.CountLaws.{length_few}
use Rattle.tags.specs.Lists.{member}
use Rattle.table.specs.Tag.{f0, fresh_tag, no_grace}
use Rattle.table.specs.declared.tag.Tag.{Tag}
use Rattle.table.specs.Table.{with_grace}
use Rattle.tiers.specs.Tiers.{tag_set, order_set, put_table, set_table, set_tier}
use Rattle.board.specs.Board.{Table, tag_at, is_bit}
use Rattle.tiers.specs.Listed.{in_tier, Listed}
use Rattle.tiers.proofs.ListedLaws.{order_below}
use Rattle.panel.specs.Panel.{tier_in, panel_of, panel_room, count_in, tags_of, tiers_of, bad_tier, entry_check, panel_check, loaded, loaded_list, Empty}
use Rattle.panel.proofs.PanelLaws.{form_good}
use Rattle.panel.proofs.WriteLaws.{length_panel, panel_count}

-- ---- the parts of a written list

low_same : (l : List ℕ) → Below 256 l → map (λ (k : ℕ). k % 256) l ≡ l
low_same [] b = refl
low_same (x ∷ l) b = rw (mod-eq_of_lt b.0, low_same l b.1)

drop_more : (x m : ℕ) (l : List ℕ) → drop (1 + m) (x ∷ l) ≡ drop m l
drop_more x m l = let e : 1 + m ≡ suc m = omega arith in ap (λ (n : ℕ). drop n (x ∷ l)) e

module _ (tags : List Tag) (order : List ℕ) (few : length order < 256) (low : Below 256 order) where
  pub tags_written : tags_of (panel_of tags order) ≡ order
  unfolding tags_of panel_of
  tags_written = rw (mod-eq_of_lt few, low_same order low) (take_at order (map (tier_in tags) order) (length order) refl)

  pub tiers_written : tiers_of (panel_of tags order) ≡ map (tier_in tags) order
  unfolding tiers_of panel_of
  tiers_written =
      let tiers = map (tier_in tags) order in
      rw (mod-eq_of_lt few, low_same order low)
      (ap (take (length order)) (drop_more (length order) (length order) (order ++ tiers) ∙ drop_at order tiers (length order) refl)
      ∙ take_all (length order) tiers (omega (arith, length-map order (tier_in tags))))

-- ---- one tier call

-- a tag that has no tier and is in no grace enters at once
at_once : (T : Table) (k tier : ℕ) (grace clock : Float) → (tag_at T k).tier ≡ 0 → (is_some (tag_at T k).grace) ≡ false → set_tier T k tier grace clock ≡ set_table T k tier
unfolding set_tier
at_once T k tier grace clock z off = rw (z, off) (all (eqb tier 1) (eqb tier 2) (le grace f0) (set_table T k tier))
  where
    all : (a b d : Bool) (X : Table) → cond a X (cond b X (cond d X X)) ≡ X
    all true b d X = refl
    all false true d X = refl
    all false false true X = refl
    all false false false X = refl

module _ (T : Table) (k tier : ℕ) where
  order_put : (tag_at T k).tier ≡ 0 → (tier ≡ 0 → ⊥) → length T.order < T.room → (set_table T k tier).order ≡ T.order ++ (k ∷ [])
  unfolding put_table order_set
  order_put z n free = rw (z, ne_eqb tier 0 n, lt-ltb _ _ free)

  tags_long : length (set_table T k tier).tags ≡ length T.tags
  unfolding put_table
  tags_long = length-set T.tags k (with_grace (tag_set (tag_at T k) (is_bit T k) tier) no_grace)

  tier_same : k < length T.tags → (tag_at (set_table T k tier) k).tier ≡ tier
  unfolding put_table tag_set
  tier_same h = ap (λ (x : Tag). x.tier) (get_or-set_same T.tags k (with_grace (tag_set (tag_at T k) (is_bit T k) tier) no_grace) fresh_tag h)

  tag_other : (j : ℕ) → (j ≡ k → ⊥) → tag_at (set_table T k tier) j ≡ tag_at T j
  unfolding put_table
  tag_other j n = get_or-set_other T.tags k j (with_grace (tag_set (tag_at T k) (is_bit T k) tier) no_grace) fresh_tag n

  room_same : (set_table T k tier).room ≡ T.room
  unfolding put_table
  room_same = refl

-- ---- the tier calls of a list

-- the tags ks can enter, each once
record Ready (T : Table) (ks : List ℕ) : Type 0 where
  within : Below (length T.tags) ks
  once : (j : ℕ) → count j ks ≤ 1
  out : (j : ℕ) → 0 < count j ks → ((tag_at T j).tier ≡ 0) × ((is_some (tag_at T j).grace) ≡ false)
  free : length T.order + length ks ≤ T.room

-- they have entered, with the tiers f says
record Entered (f : ℕ → ℕ) (T : Table) (ks : List ℕ) (end : Table) : Type 0 where
  order_is : end.order ≡ T.order ++ ks
  others : (j : ℕ) → count j ks ≡ 0 → (tag_at end j).tier ≡ (tag_at T j).tier
  those : (j : ℕ) → 0 < count j ks → (tag_at end j).tier ≡ f j

count_head : (k : ℕ) (ks : List ℕ) → count k (k ∷ ks) ≡ 1 + count k ks
count_head k ks = rw (eq-eqb k k refl)

count-tail : (j k : ℕ) (ks : List ℕ) → count j ks ≤ count j (k ∷ ks)
count-tail j k ks = omega arith

module _ (f : ℕ → ℕ) (T : Table) (k : ℕ) (ks : List ℕ) (r : Ready T (k ∷ ks)) where
  no_more : count k ks ≡ 0
  no_more = omega (arith, r.once k, count_head k ks)

  apart : (j : ℕ) → 0 < count j ks → j ≡ k → ⊥
  apart j h e = let z : count j ks ≡ 0 = ap (λ (i : ℕ). count i ks) e ∙ no_more in omega arith

  first_out : ((tag_at T k).tier ≡ 0) × ((is_some (tag_at T k).grace) ≡ false)
  first_out = r.out k (omega (arith, count_head k ks))

  module _ (n : f k ≡ 0 → ⊥) where
    pushed-order : (set_table T k (f k)).order ≡ T.order ++ (k ∷ [])
    pushed-order = order_put T k (f k) first_out.0 n (omega (arith, r.free))

    ready_next : Ready (set_table T k (f k)) ks
    ready_next = record {
      within = rw (tags_long T k (f k)) r.within.1;
      once = λ j. omega (arith, r.once j, count-tail j k ks);
      out = λ j h. rw (tag_other T k (f k) j (apart j h)) (r.out j (omega (arith, count-tail j k ks)));
      free = omega (arith, r.free, room_same T k (f k), ap length pushed-order, length-append T.order (k ∷ []));
    }

    entered_next : (end : Table) → Entered f (set_table T k (f k)) ks end → Entered f T (k ∷ ks) end
    entered_next end e = record {
      order_is = e.order_is ∙ ap (λ (l : List ℕ). l ++ ks) pushed-order ∙ append_assoc T.order (k ∷ []) ks;
      others = λ j z. e.others j (omega (arith, count-tail j k ks)) ∙ ap (λ (x : Tag). x.tier) (tag_other T k (f k) j (not_k j z));
      those = λ j h. go j h (eqb j k) refl;
    }
      where
        not_k : (j : ℕ) → count j (k ∷ ks) ≡ 0 → j ≡ k → ⊥
        not_k j z s = let z' : count k (k ∷ ks) ≡ 0 = ap (λ (i : ℕ). count i (k ∷ ks)) (sym s) ∙ z in omega (arith, count_head k ks)

        go : (j : ℕ) → 0 < count j (k ∷ ks) → (b : Bool) → eqb j k ≡ b → (tag_at end j).tier ≡ f j
        go j h true q = let s : j ≡ k = eqb-true j k q in rw s (e.others k no_more ∙ tier_same T k (f k) r.within.0)
        go j h false q = e.those j (let z : 0 < cond (eqb j k) 1 0 + count j ks = h in omega (arith, rw q at z))

-- Rule 11: the tier calls in list order
entered : (f : ℕ → ℕ) (T : Table) (ks : List ℕ) (grace clock : Float) → Ready T ks → ((j : ℕ) → 0 < count j ks → f j ≡ 0 → ⊥)
    → Entered f T ks (loaded T ks (map f ks) grace clock)
unfolding loaded
entered f T [] grace clock r n = record { order_is = sym (append-nil T.order); others = λ j z. refl; those = λ j h. absurd (omega arith) }
entered f T (k ∷ ks) grace clock r n =
    let o = first_out f T k ks r in
    let nk : f k ≡ 0 → ⊥ = n k (omega (arith, count_head k ks)) in
    rw (at_once T k (f k) grace clock o.0 o.1)
    (entered_next f T k ks r nk _
    (entered f (set_table T k (f k)) ks grace clock (ready_next f T k ks r nk) (λ j h. n j (omega (arith, count-tail j k ks)))))

-- ---- written and loaded

few_in : (n : ℕ) → in_tier n ≤ 1
few_in zero = omega arith
few_in (suc n) = omega arith

in_some : (n : ℕ) → 0 < in_tier n → n ≡ 0 → ⊥
in_some zero h e = omega arith
in_some (suc n) h e = omega arith

in_none : (n : ℕ) → in_tier n ≡ 0 → n ≡ 0
in_none zero e = refl
in_none (suc n) e = absurd (omega arith)

-- Rule 11: a list written from a listed table T of tags that fit a byte, loaded into an empty table F of as many tags.
module _ (T F : Table) (l : Listed T) (empty : Empty F) (same : length F.tags ≡ length T.tags) (enough : length F.tags ≤ F.room) (grace clock : Float) where
  order_once : (j : ℕ) → count j T.order ≤ 1
  order_once j = omega (arith, l.once j, few_in (tag_at T j).tier)

  order_few : length T.order ≤ length T.tags
  order_few = length_few (length T.tags) T.order (order_below T l) order_once

  ready : Ready F T.order
  ready = record {
    within = rw same (order_below T l);
    once = order_once;
    out = λ j h. (empty.none j, empty.calm j);
    free = rw empty.order_none (omega (arith, order_few));
  }

  all_entered : Entered (tier_in T.tags) F T.order (loaded F T.order (map (tier_in T.tags) T.order) grace clock)
  all_entered = entered (tier_in T.tags) F T.order grace clock ready (λ j h. in_some (tag_at T j).tier (omega (arith, l.once j)))

  module _ (fits : length T.tags < 256) where
    again : loaded_list F (panel_of T.tags T.order) grace clock ≡ loaded F T.order (map (tier_in T.tags) T.order) grace clock
    again =
        let few : length T.order < 256 = omega (arith, order_few) in
        let low : Below 256 T.order = below_more (length T.tags) 256 T.order (omega arith) (order_below T l) in
        rw (tags_written T.tags T.order few low, tiers_written T.tags T.order few low)

    pub same_order : (loaded_list F (panel_of T.tags T.order) grace clock).order ≡ T.order
    same_order = ap (λ (X : Table). X.order) again ∙ all_entered.order_is ∙ ap (λ (o : List ℕ). o ++ T.order) empty.order_none

    pub same_tiers : (k : ℕ) → (tag_at (loaded_list F (panel_of T.tags T.order) grace clock) k).tier ≡ (tag_at T k).tier
    same_tiers k = ap (λ (X : Table). (tag_at X k).tier) again ∙ go (ltb 0 (count k T.order)) refl
      where
        go : (b : Bool) → ltb 0 (count k T.order) ≡ b → (tag_at (loaded F T.order (map (tier_in T.tags) T.order) grace clock) k).tier ≡ (tag_at T k).tier
        go true e = all_entered.those k (ltb-true 0 (count k T.order) e)
        go false e =
            let z : count k T.order ≡ 0 = omega (arith, ltb-false 0 (count k T.order) e) in
            all_entered.others k z ∙ empty.none k ∙ sym (in_none (tag_at T k).tier (sym (l.once k) ∙ z))

-- ---- a written list is accepted

member_none : (k : ℕ) (l : List ℕ) → count k l ≡ 0 → member k l ≡ false
member_none k [] z = refl
member_none k (x ∷ l) z = go (eqb k x) refl z (member_none k l)
  where
    go : (b : Bool) → eqb k x ≡ b → cond (eqb k x) 1 0 + count k l ≡ 0 → (count k l ≡ 0 → member k l ≡ false) → cond (eqb k x) true (member k l) ≡ false
    go true e z again = absurd (omega (arith, rw e at z))
    go false e z again = rw e (again (omega (arith, rw e at z)))

good_tier : (n : ℕ) → (n ≡ 0 → ⊥) → n ≤ 3 → bad_tier n ≡ false
good_tier n h g = rw (le-ltb 3 n g, ne_eqb n 0 h)

all-good : (n : ℕ) (f : ℕ → ℕ) (seen ks : List ℕ) → Below n ks → ((j : ℕ) → count j seen + count j ks ≤ 1) → ((j : ℕ) → 0 < count j ks → bad_tier (f j) ≡ false)
    → entry_check n seen ks (map f ks) ≡ 0
unfolding entry_check
all-good n f seen [] b once good = refl
all-good n f seen (k ∷ ks) b once good =
    let new : count k seen ≡ 0 = omega (arith, once k, count_head k ks) in
    rw (lt-leb n k b.0, member_none k seen new, good k (omega (arith, count_head k ks)))
    (all-good n f (seen ++ (k ∷ [])) ks b.1 (λ j. omega (arith, once j, count-append j seen (k ∷ []))) (λ j h. good j (omega (arith, count-tail j k ks))))

-- Checks 51 to 55: what is written from a listed table whose tags have tiers up to 3 passes them for its directory.
pub accepted : (T : Table) → Listed T → ((k : ℕ) → (tag_at T k).tier ≤ 3) → length T.tags < 256 → panel_check (length T.tags) (panel_of T.tags T.order) ≡ 0
accepted T l most fits =
    let once : (j : ℕ) → count j T.order ≤ 1 = λ j. omega (arith, l.once j, few_in (tag_at T j).tier) in
    let short : length T.order ≤ length T.tags = length_few (length T.tags) T.order (order_below T l) once in
    let few : length T.order < 256 = omega arith in
    let low : Below 256 T.order = below_more (length T.tags) 256 T.order (omega arith) (order_below T l) in
    let long = length_panel T.tags T.order in
    let size : length (panel_of T.tags T.order) ≡ panel_room (count_in (panel_of T.tags T.order)) =
    long ∙ ap panel_room (sym (mod-eq_of_lt few) ∙ panel_count T.tags T.order 0 refl)
    in
    sym (form_good (length T.tags) (panel_of T.tags T.order) (λ e. omega arith) size)
    ∙ rw (tags_written T.tags T.order few low, tiers_written T.tags T.order few low)
    (all-good
    (length T.tags)
    (tier_in T.tags)
    []
    T.order
    (order_below T l)
    (λ j. omega (arith, once j))
    (λ j h. good_tier (tag_at T j).tier (in_some (tag_at T j).tier (omega (arith, l.once j))) (most j)))
