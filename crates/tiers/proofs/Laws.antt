-- Rule 5: what the steps of a tier call come to.
use mathlib.Core.Path.{◌≡◌, refl, ap, ◌∙◌}
use mathlib.Core.Bool.{Bool, true, false, cond}
use Prim.Native.Nat.{ℕ}
use lib.Dec.{eqb}
use lib.Ieee.{Float, le}
use lib.ListN.{get_or, set}
use Rattle.std.specs.Prelude.{None, Option, is_some}
use Rattle.table.specs.Tag.{f0, no_timing, fresh_tag}
use Rattle.table.specs.Table.{with_grace, with_standing, without_last, without_readings}
use Rattle.table.specs.declared.tag.Grace.{Grace}
use Rattle.table.specs.declared.tag.Tag.{Tag}
use Rattle.table.proofs.RowLaws.{set_again}
use Rattle.board.specs.Board.{Table, Board, tag_at, is_bit, with_table, with_tag, with_order, with_graces}
use Rattle.tiers.specs.Tiers.{timing_set, added_set, wants_set, tag_set, kept_for, order_set, grace_ended, put_table, set_table, set_tier}

-- standing first, then what is kept: the tag put in a tier
pub standing_kept : (x : Tag) (bit : Bool) (tier : ℕ) (g : Option Grace)
    → kept_for (with_standing x tier g (added_set x tier) (wants_set x bit tier)) tier ≡ with_grace (tag_set x bit tier) g
unfolding tag_set timing_set
standing_kept x bit tier g = go (eqb tier 0) (eqb tier 1) (added_set x tier) (wants_set x bit tier)
  where
    go : (none one added wants : Bool)
        → cond none (without_readings (with_standing x tier g added wants)) (cond one (with_standing x tier g added wants) (without_last (with_standing x tier g added wants)))
        ≡ record {
          tier = tier;
          grace = g;
          timing = cond none no_timing (cond one x.timing (record { last = None; retry = x.timing.retry }));
          added = added;
          wants = wants;
          description = x.description;
          settings = x.settings;
          cached = cond none None x.cached;
          published = cond none None x.published;
        }
    go true one added wants = refl
    go false true added wants = refl
    go false false added wants = refl

-- no grace: every tier takes effect at once
pub set-at_once : (T : Table) (k tier : ℕ) (grace clock : Float) → le grace f0 ≡ true → set_tier T k tier grace clock ≡ set_table T k tier
unfolding set_tier
set-at_once T k tier grace clock e = rw e (go (eqb tier 1) (eqb tier 2))
  where
    go : (one two : Bool) → cond one (set_table T k tier) (cond two (set_table T k tier) (set_table T k tier)) ≡ set_table T k tier
    go true two = refl
    go false true = refl
    go false false = refl

-- standing, then what is kept, then the order, then the graces
pub put_steps : (B B1 B2 B3 B4 : Board) (k tier : ℕ) (g : Option Grace)
    → B1 ≡ with_tag B k (with_standing (tag_at B.table k) tier g (added_set (tag_at B.table k) tier) (wants_set (tag_at B.table k) (is_bit B.table k) tier))
    → B2 ≡ with_tag B1 k (kept_for (tag_at B1.table k) tier)
    → B3 ≡ with_order B2 (order_set B2.table.room B2.table.order k (tag_at B.table k).tier tier)
    → B4 ≡ with_graces B3 (grace_ended B3.table.graces k (is_some (tag_at B.table k).grace))
    → B4 ≡ with_table B (put_table B.table k tier g)
unfolding put_table
put_steps B B1 B2 B3 B4 k tier g e1 e2 e3 e4 =
    let x = tag_at B.table k in
    let bit = is_bit B.table k in
    let ts = B.table.tags in
    let standing = with_standing x tier g (added_set x tier) (wants_set x bit tier) in
    let tags : set (set ts k standing) k (kept_for (get_or (set ts k standing) k fresh_tag) tier) ≡ set ts k (with_grace (tag_set x bit tier) g) =
    set_again (λ (y : Tag). kept_for y tier) ts k standing fresh_tag ∙ ap (set ts k) (standing_kept x bit tier g)
    in
    rw (e4, e3, e2, e1, tags) refl
