-- Rule 6: the list of a round names no tag twice, and only tags of the table. So there is room for it where there is for every tag of the table.
use mathlib.Core.Path.{◌≡◌, refl, sym, ◌∙◌}
use mathlib.Core.Bool.{Bool, true, false, not, ◌&&◌, cond, true≢false}
use mathlib.Core.List.{List, [], ◌∷◌, ◌++◌}
use Prim.Native.Nat.{ℕ, zero, suc, ◌+◌, ◌*◌, ◌≤◌, min}
use native.Mathlib.Omega.{arith}
use borrow.Author.Tests.{eqb-true, eq-eqb, ne_eqb}
use lib.Dec.{eqb}
use lib.Ieee.{Float, binary64, div}
use lib.ListN.{length, get_or, drop}
use Rattle.ieee.specs.Round.{float, slices_of}
use Rattle.lists.specs.Keep.{keep, count, Below, up_to}
use Rattle.lists.specs.Slices.{size, slice}
use Rattle.lists.proofs.KeepLaws.{count-take, count-append, count-keep, count-keep_none, below-append, below-keep, below-take, below_more}
use Rattle.lists.proofs.CountLaws.{length_few}
use Rattle.lists.proofs.SortLaws.{count-sort, below-sort}
use Rattle.tags.specs.Lists.{member}
use Rattle.table.specs.Tag.{fresh_tag}
use Rattle.table.specs.Table.{by_rank}
use Rattle.table.specs.declared.tag.Tag.{Tag}
use Rattle.board.specs.Board.{Table, tag_at}
use Rattle.tiers.specs.Listed.{in_tier, Listed}
use Rattle.tiers.proofs.ListedLaws.{order_below}
use Rattle.slices.specs.Slice.{is_tier2, tier2_tags, slice_taken}
use Rattle.rounds.specs.Graces.{run_out}
use Rattle.rounds.specs.Due.{is_due, due_tags, marked}
use Rattle.rounds.specs.Added.{is_added, with_added_tags}
use Rattle.rounds.specs.Missing.{is_held_back, not_held_back}
use Rattle.rounds.specs.Round.{Polling, Round, round}
use Rattle.heads.specs.declared.options.Options.{Options}
use Rattle.rounds.proofs.AddedLaws.{below_up_to}
use Rattle.rounds.proofs.DueLaws.{marked-part, marked_long}
use Rattle.rounds.proofs.GraceLaws.{listed_run_out, run_out_long, expired-below}

-- ---- parts of a list

count-drop : (k n : ℕ) (l : List ℕ) → count k (drop n l) ≤ count k l
count-drop k zero l = omega arith
count-drop k (suc n) [] = omega arith
count-drop k (suc n) (x ∷ l) = omega (arith, count-drop k n l)

below-drop : (n m : ℕ) (l : List ℕ) → Below n l → Below n (drop m l)
below-drop n zero l b = b
below-drop n (suc m) [] b = tt
below-drop n (suc m) (x ∷ l) b = below-drop n m l b.1

count-slice : (k S : ℕ) (l : List ℕ) (i : ℕ) → count k (slice S l i) ≤ count k l
unfolding slice
count-slice k S l i = omega (arith, count-take k (size S l) (drop (i * size S l) l), count-drop k (i * size S l) l)

below-slice : (n S : ℕ) (l : List ℕ) (i : ℕ) → Below n l → Below n (slice S l i)
unfolding slice
below-slice n S l i b = below-take n (size S l) (drop (i * size S l) l) (below-drop n (i * size S l) l b)

-- what passes a test is named no more often
count_kept : (p : ℕ → Bool) (k : ℕ) (l : List ℕ) → count k (keep p l) ≤ count k l
count_kept p k l = go (p k) refl
  where
    go : (b : Bool) → p k ≡ b → count k (keep p l) ≤ count k l
    go true e = omega (arith, count-keep p k l e)
    go false e = omega (arith, count-keep_none p k l e)

pub count_above : (n k : ℕ) (l : List ℕ) → n ≤ k → Below n l → count k l ≡ 0
count_above n k [] h b = refl
count_above n k (x ∷ l) h b = rw (ne_eqb k x (λ e. omega (arith, b.0))) (omega (arith, count_above n k l h b.1))

not_named : (k : ℕ) (l : List ℕ) → member k l ≡ false → count k l ≡ 0
not_named k [] e = refl
not_named k (x ∷ l) e = go (eqb k x) refl e (not_named k l)
  where
    go : (b : Bool) → eqb k x ≡ b → cond b true (member k l) ≡ false → (member k l ≡ false → count k l ≡ 0) → cond (eqb k x) 1 0 + count k l ≡ 0
    go true f q ih = absurd (true≢false q)
    go false f q ih = rw f (omega (arith, ih q))

pub up_to_once : (n k : ℕ) → count k (up_to n) ≤ 1
unfolding up_to
up_to_once zero k = omega arith
up_to_once (suc n) k = go (eqb k n) refl (up_to_once n k)
  where
    go : (b : Bool) → eqb k n ≡ b → count k (up_to n) ≤ 1 → count k (up_to n ++ (n ∷ [])) ≤ 1
    go true e ih =
        let s : k ≡ n = eqb-true k n e in
        rw (count-append k (up_to n) (n ∷ []), e) (omega (arith, count_above n k (up_to n) (omega arith) (below_up_to n)))
    go false e ih = rw (count-append k (up_to n) (n ∷ []), e) (omega arith)

-- ---- the tags of a tier

both_first : (a b : Bool) → (a && b) ≡ true → a ≡ true
both_first true b e = refl
both_first false b e = e

both_second : (a b : Bool) → (a && b) ≡ true → b ≡ true
both_second true b e = e
both_second false b e = absurd (true≢false (sym e))

few_in : (n : ℕ) → in_tier n ≤ 1
few_in zero = omega arith
few_in (suc n) = omega arith

-- no tag is in two tiers
one_tier : (n : ℕ) → cond (eqb n 1) 1 0 + cond (eqb n 2) 1 0 ≤ 1
one_tier n = go (eqb n 1) refl (eqb n 2) refl
  where
    go : (a : Bool) → eqb n 1 ≡ a → (b : Bool) → eqb n 2 ≡ b → cond a 1 0 + cond b 1 0 ≤ 1
    go true e true f = let s : n ≡ 1 = eqb-true n 1 e in let s' : n ≡ 2 = eqb-true n 2 f in absurd (omega arith)
    go true e false f = omega arith
    go false e true f = omega arith
    go false e false f = omega arith

-- a test that no tag but those of the tier n passes
module _ (T : Table) (l : Listed T) (p : ℕ → Bool) (n : ℕ) (in_tier_lem : (k : ℕ) → p k ≡ true → (tag_at T k).tier ≡ n) where
  tier_once : (k : ℕ) → count k (keep p T.order) ≤ cond (eqb (tag_at T k).tier n) 1 0
  tier_once k = go (p k) refl
    where
      go : (b : Bool) → p k ≡ b → count k (keep p T.order) ≤ cond (eqb (tag_at T k).tier n) 1 0
      go true e = rw (eq-eqb (tag_at T k).tier n (in_tier_lem k e)) (omega (arith, count-keep p k T.order e, l.once k, few_in (tag_at T k).tier))
      go false e = omega (arith, count-keep_none p k T.order e)

pub order_once : (T : Table) → Listed T → (k : ℕ) → count k T.order ≤ 1
order_once T l k = omega (arith, l.once k, few_in (tag_at T k).tier)

-- ---- the lists of a round, over the table T that its graces leave

module _ (less : ℕ → ℕ → Bool) (T : Table) (l : Listed T) (clock half cycle : Float) (boundary : Bool) (S i : ℕ) where
  abbrev rows : ℕ
  rows = length T.tags

  abbrev due_now : ℕ → Bool
  due_now k = is_due (get_or T.tags k fresh_tag) clock half cycle

  abbrev due : List ℕ
  due = due_tags T.tags T.order clock half cycle

  abbrev tags : List Tag
  tags = marked T.tags clock due

  abbrev tier2 : List ℕ
  tier2 = tier2_tags less tags T.order

  abbrev taken : List ℕ
  taken = slice_taken boundary S tier2 i

  abbrev wanted : List ℕ
  wanted = with_added_tags tags (due ++ taken) (by_rank tags)

  abbrev list : List ℕ
  list = not_held_back tags wanted clock

  -- ---- named once

  due_once : (k : ℕ) → count k due ≤ cond (eqb (tag_at T k).tier 1) 1 0
  due_once k = tier_once T l due_now 1 (λ j e. eqb-true (tag_at T j).tier 1 (both_first (eqb (tag_at T j).tier 1) _ e)) k

  tier2_once : (k : ℕ) → count k tier2 ≤ cond (eqb (tag_at T k).tier 2) 1 0
  tier2_once k =
      omega (
        arith,
        count-sort less k (keep (is_tier2 tags) T.order),
        tier_once T l (is_tier2 tags) 2 (λ j e. sym (marked-part (λ (x : Tag). x.tier) clock (λ x. refl) T.tags due j) ∙ eqb-true (get_or tags j fresh_tag).tier 2 e) k,
      )

  taken_few : (k : ℕ) → count k taken ≤ count k tier2
  taken_few k = go boundary
    where
      go : (b : Bool) → count k (slice_taken b S tier2 i) ≤ count k tier2
      go true = count-slice k S tier2 i
      go false = omega arith

  both_once : (k : ℕ) → count k (due ++ taken) ≤ 1
  both_once k = rw (count-append k due taken) (omega (arith, due_once k, taken_few k, tier2_once k, one_tier (tag_at T k).tier))

  -- a tag that is new is added where it is not listed yet
  added_once : (base : List ℕ) → ((k : ℕ) → count k base ≤ 1) → (k : ℕ) → count k (base ++ keep (is_added tags base) (by_rank tags)) ≤ 1
  added_once base once k = rw (count-append k base (keep (is_added tags base) (by_rank tags))) (go (is_added tags base k) refl)
    where
      unlisted : (b : Bool) → not b ≡ true → b ≡ false
      unlisted true e = absurd (true≢false (sym e))
      unlisted false e = refl

      go : (b : Bool) → is_added tags base k ≡ b → count k base + count k (keep (is_added tags base) (by_rank tags)) ≤ 1
      go true e =
          omega (
            arith,
            not_named k base (unlisted (member k base) (both_second (get_or tags k fresh_tag).added (not (member k base)) e)),
            count-keep (is_added tags base) k (by_rank tags) e,
            up_to_once (min (length tags) 65536) k,
          )
      go false e = omega (arith, once k, count-keep_none (is_added tags base) k (by_rank tags) e)

  wanted_once : (k : ℕ) → count k wanted ≤ 1
  wanted_once = added_once (due ++ taken) both_once

  goes : ℕ → Bool
  goes k = not (is_held_back (get_or tags k fresh_tag) clock)

  list_once : (k : ℕ) → count k list ≤ 1
  unfolding goes
  list_once k = omega (arith, count_kept goes k wanted, wanted_once k)

  -- ---- tags of the table

  due_below : Below rows due
  due_below = below-keep rows due_now T.order (order_below T l)

  tier2_below : Below rows tier2
  tier2_below = below-sort rows less (keep (is_tier2 tags) T.order) (below-keep rows (is_tier2 tags) T.order (order_below T l))

  taken-below : Below rows taken
  taken-below = go boundary
    where
      go : (b : Bool) → Below rows (slice_taken b S tier2 i)
      go true = below-slice rows S tier2 i tier2_below
      go false = tt

  both_below : Below rows (due ++ taken)
  both_below = below-append rows due taken due_below taken-below

  ranks_below : Below rows (by_rank tags)
  ranks_below = below_more (min (length tags) 65536) rows (by_rank tags) (omega (arith, marked_long T.tags clock due)) (below_up_to (min (length tags) 65536))

  added_below : (base : List ℕ) → Below rows base → Below rows (base ++ keep (is_added tags base) (by_rank tags))
  added_below base b = below-append rows base (keep (is_added tags base) (by_rank tags)) b (below-keep rows (is_added tags base) (by_rank tags) ranks_below)

  wanted_below : Below rows wanted
  wanted_below = added_below (due ++ taken) both_below

  list_below : Below rows list
  unfolding goes
  list_below = below-keep rows goes wanted wanted_below

-- ---- the round

module _ (less : ℕ → ℕ → Bool) (o : Options) (P : Polling) (clock : Float) where
  abbrev R : Round
  R = round less o P clock

  -- the table that the graces leave
  abbrev left : Table
  left = run_out P.table R.ran_out

  module _ (l : Listed P.table) where
    expired : Below (length P.table.tags) R.ran_out
    unfolding round
    expired = expired-below P.table l R.boundary clock

    listed_left : Listed left
    listed_left = listed_run_out P.table R.ran_out l expired

    left_long : length left.tags ≡ length P.table.tags
    left_long = run_out_long P.table R.ran_out l expired

    abbrev half : Float
    half = div binary64 R.tick (float 2)

    abbrev S : ℕ
    S = slices_of o.period o.cycle

    -- Rule 6: the list of a round names no tag twice, so that it is no longer than the table.
    pub round_once : (k : ℕ) → count k R.list ≤ 1
    unfolding round
    round_once = list_once less left listed_left clock half o.cycle R.boundary S P.cycle.index

    -- The same of the tags that the round wants, before missing ones are dropped.
    pub round_wanted_once : (k : ℕ) → count k R.wanted ≤ 1
    unfolding round
    round_wanted_once = wanted_once less left listed_left clock half o.cycle R.boundary S P.cycle.index

    -- Rule 6: it names tags of the table alone.
    pub round-below : Below (length P.table.tags) R.list
    unfolding round
    round-below = rw (sym left_long) (list_below less left listed_left clock half o.cycle R.boundary S P.cycle.index)

    pub round_short : length R.list ≤ length P.table.tags
    round_short = length_few (length P.table.tags) R.list round-below round_once

    pub round_wanted_below : Below (length P.table.tags) R.wanted
    unfolding round
    round_wanted_below = rw (sym left_long) (wanted_below less left listed_left clock half o.cycle R.boundary S P.cycle.index)
