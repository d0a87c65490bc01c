-- What of an engine only rounds, tier calls and clock readings change.
use mathlib.Core.Path.{◌≡◌, refl, ap, sym, ◌∙◌, subst}
use mathlib.Core.Bool.{Bool, true, false, cond}
use mathlib.Core.List.{List, [], ◌∷◌, map}
use mathlib.Core.Option.{none}
use Prim.Native.Nat.{ℕ, suc}
use lib.Dec.{eqb}
use lib.Ieee.{Float}
use lib.IntN.{ℤ}
use lib.ListN.{get_or, set}
use Rattle.std.specs.Prelude.{Option}
use Rattle.values.specs.Entry.{TagResult}
use Rattle.table.specs.Tag.{fresh_tag}
use Rattle.table.specs.Table.{with_description}
use Rattle.table.specs.declared.tag.Description.{Description}
use Rattle.table.specs.declared.tag.Tag.{Tag}
use Rattle.apply.specs.Apply.{tag_read, tag_applied, applied_at}
use Rattle.results.specs.Results.{result_in}
use Rattle.readings.specs.Listed.{Applying, apply_next, apply_from}
use Rattle.descriptions.specs.Descriptions.{known_from}
use Rattle.heads.specs.Version.{is_changed}
use Rattle.versions.specs.Versions.{tag_taken, taken_at, each_at, table_taken, version_table, takes_settings}
use Rattle.heads.specs.declared.cycle.Cycle.{Cycle}
use Rattle.turns.proofs.TierLaws.{tiers, set-kept, tier_of, place_of, places, places_tiers, places_settings}
use Rattle.turns.proofs.TickLaws.{Rated}
use Rattle.turns.proofs.RateLaws.{rated_same}
use Rattle.board.specs.Board.{with_records, Table}
use Rattle.replies.specs.Worker.{Worker, Told, tell}
use Rattle.replies.specs.declared.reply.Reply.{Reply}

-- Options, directory, last boundary and slice index, clock, sort keys, room, order, graces, and the tier of each tag are the same in B as in A; and rates stay at
-- 1 ms or more.
pub record Keeps (A B : Worker) : Type 0 where
  pub options_kept : B.head.options ≡ A.head.options
  pub count_kept : B.head.count ≡ A.head.count
  pub cycle_kept : B.head.cycle ≡ A.head.cycle
  pub clock_kept : B.head.clock ≡ A.head.clock
  pub keys_kept : B.board.keys ≡ A.board.keys
  pub room-kept : B.board.table.room ≡ A.board.table.room
  pub order-kept : B.board.table.order ≡ A.board.table.order
  pub graces-kept : B.board.table.graces ≡ A.board.table.graces
  pub tiers_kept : tiers B.board.table.tags ≡ tiers A.board.table.tags
  pub rated_kept : Rated A.board.table.tags → Rated B.board.table.tags

-- the slice index is the same
pub index_kept : (A B : Worker) → Keeps A B → B.head.cycle.index ≡ A.head.cycle.index
index_kept A B k = ap (λ (x : Cycle). x.index) k.cycle_kept

-- the table and all else that is named is the same
pub keeps_all : (A B : Worker) → B.head.options ≡ A.head.options → B.head.count ≡ A.head.count → B.head.cycle ≡ A.head.cycle → B.head.clock ≡ A.head.clock
    → B.board.keys ≡ A.board.keys → B.board.table ≡ A.board.table → Keeps A B
keeps_all A B a b c d e t = record {
  options_kept = a;
  count_kept = b;
  cycle_kept = c;
  clock_kept = d;
  keys_kept = e;
  room-kept = ap (λ x. x.room) t;
  order-kept = ap (λ x. x.order) t;
  graces-kept = ap (λ x. x.graces) t;
  tiers_kept = ap (λ x. tiers x.tags) t;
  rated_kept = λ r. subst (λ (x : Table). Rated x.tags) (sym t) r;
}

-- the records of the tags are replaced, each by one in the same tier, and rates stay at 1 ms or more
pub keeps_tags : (W : Worker) (tags : List Tag) → tiers tags ≡ tiers W.board.table.tags → (Rated W.board.table.tags → Rated tags)
    → Keeps W (record { head = W.head; board = with_records W.board tags })
keeps_tags W tags e r = record {
  options_kept = refl;
  count_kept = refl;
  cycle_kept = refl;
  clock_kept = refl;
  keys_kept = refl;
  room-kept = refl;
  order-kept = refl;
  graces-kept = refl;
  tiers_kept = e;
  rated_kept = r;
}

-- the records of the tags are replaced, each by one with the same tier and settings
pub keeps_records : (W : Worker) (tags : List Tag) → places tags ≡ places W.board.table.tags → Keeps W (record { head = W.head; board = with_records W.board tags })
keeps_records W tags e =
    let old = W.board.table.tags in
    keeps_tags W tags (places_tiers tags old e) (rated_same tags old (places_settings tags old e))

-- one after the other
pub keeps_after : (A B C : Worker) → Keeps A B → Keeps B C → Keeps A C
keeps_after A B C p q = record {
  options_kept = q.options_kept ∙ p.options_kept;
  count_kept = q.count_kept ∙ p.count_kept;
  cycle_kept = q.cycle_kept ∙ p.cycle_kept;
  clock_kept = q.clock_kept ∙ p.clock_kept;
  keys_kept = q.keys_kept ∙ p.keys_kept;
  room-kept = q.room-kept ∙ p.room-kept;
  order-kept = q.order-kept ∙ p.order-kept;
  graces-kept = q.graces-kept ∙ p.graces-kept;
  tiers_kept = q.tiers_kept ∙ p.tiers_kept;
  rated_kept = λ r. q.rated_kept (p.rated_kept r);
}

-- ---- records of tags: their tiers and settings

-- either of two
cond_tags : {A : Type 0} (g : Tag → A) (b : Bool) (x y l : List Tag) → map g x ≡ map g l → map g y ≡ map g l → map g (cond b x y) ≡ map g l
cond_tags g true x y l p q = p
cond_tags g false x y l p q = q

-- readings keep them
applied_places : (tags : List Tag) (k : ℕ) (r : TagResult) (start : Float) (t : ℤ) (polled : Bool) → places (applied_at tags k r start t polled) ≡ places tags
unfolding applied_at tag_read
applied_places tags k r start t polled =
    cond_tags place_of (eqb (get_or tags k fresh_tag).tier 0) tags _ tags refl (set-kept place_of tags k (tag_applied (get_or tags k fresh_tag) r start t polled) refl)

-- so do all readings of an answer
pub apply_places : (results : List ℕ) (start : Float) (t : ℤ) (polled : Bool) (i : ℕ) (ks : List ℕ) (S : Applying)
    → places (apply_from results start t polled i ks S).tags ≡ places S.tags
unfolding apply_from apply_next
apply_places results start t polled i [] S = refl
apply_places results start t polled i (k ∷ ks) S =
    apply_places results start t polled (suc i) ks (apply_next S k (result_in results i) start t polled) ∙ applied_places S.tags k (result_in results i) start t polled

-- so do descriptions
pub known_places : (f : ℕ → Description) (i : ℕ) (ks : List ℕ) (tags : List Tag) → places (known_from f i ks tags) ≡ places tags
unfolding known_from
known_places f i [] tags = refl
known_places f i (k ∷ ks) tags =
    known_places f (suc i) ks (set tags k (with_description (get_or tags k fresh_tag) (f i))) ∙ set-kept place_of tags k (with_description (get_or tags k fresh_tag) (f i)) refl

-- settings and versions keep the tiers
each_tiers : (f : ℕ → Tag → Tag) → ((i : ℕ) (x : Tag) → (f i x).tier ≡ x.tier) → (i : ℕ) (tags : List Tag) → tiers (each_at f i tags) ≡ tiers tags
unfolding each_at
each_tiers f h i [] = refl
each_tiers f h i (x ∷ l) = rw (h i x, each_tiers f h (suc i) l)

-- all settings of a table
pub taken_tiers : (changed : Bool) (settings words : List ℕ) (tags : List Tag) → tiers (table_taken changed settings words tags) ≡ tiers tags
unfolding tag_taken
taken_tiers changed settings words tags = each_tiers (taken_at changed settings words) (λ i x. refl) 0 tags

-- a version answer
pub version_tiers : (old new : Option ℕ) (connecting : Bool) (settings words : List ℕ) (tags : List Tag) → tiers (version_table old new connecting settings words tags) ≡ tiers tags
unfolding version_table
version_tiers old new connecting settings words tags =
    cond_tags tier_of (takes_settings (is_changed old new) connecting) (table_taken (is_changed old new) settings words tags) tags tags (taken_tiers (is_changed old new) settings words tags) refl

-- ---- what is told without a round

pub record Still (W : Worker) (T : Told) : Type 0 where
  pub keeps : Keeps W T.left
  pub no_round : T.round ≡ none

-- something told by an engine that keeps all
pub still_tell : (W M : Worker) (r : Reply) (bytes : List ℕ) → Keeps W M → Still W (tell M r bytes)
still_tell W M r bytes k = record { keeps = k; no_round = refl }

-- either of two
pub still_if : (W : Worker) (b : Bool) (x y : Told) → Still W x → Still W y → Still W (cond b x y)
still_if W true x y p q = p
still_if W false x y p q = q

-- told from an engine that keeps all
pub still_after : (W M : Worker) (T : Told) → Keeps W M → Still M T → Still W T
still_after W M T k s = record { keeps = keeps_after W M T.left k s.keeps; no_round = s.no_round }
