-- What a round does to the tiers of tags, to the tier-2 tags in slice order, and to the slice index.
use mathlib.Core.Path.{◌≡◌, refl, ap, ◌∙◌}
use mathlib.Core.Bool.{Bool, true, false}
use mathlib.Core.List.{List, [], ◌∷◌, map}
use Prim.Native.Nat.{ℕ}
use lib.Ieee.{Float}
use lib.ListN.{length, length-set, get_or, set}
use Rattle.std.specs.Prelude.{Some}
use Rattle.ieee.specs.Round.{slices_of}
use Rattle.lists.specs.Keep.{Below}
use Rattle.lists.specs.Slices.{slice, next}
use Rattle.table.specs.Tag.{fresh_tag}
use Rattle.table.specs.Table.{with_last}
use Rattle.table.specs.declared.tag.Tag.{Tag}
use Rattle.tiers.specs.Tiers.{tag_set, put_table, set_table}
use Rattle.board.specs.Board.{Table, tag_at}
use Rattle.tiers.specs.Listed.{Listed}
use Rattle.tiers.proofs.ListedLaws.{order_below}
use Rattle.slices.specs.Slice.{tier2_tags, slice_taken, next_index}
use Rattle.rounds.specs.Graces.{expired_at, run_out, after_of}
use Rattle.rounds.specs.Due.{marked}
use Rattle.rounds.specs.Added.{settled}
use Rattle.rounds.specs.Round.{Polling, Round, cycle_after, round}
use Rattle.heads.specs.declared.options.Options.{Options}
use Rattle.heads.specs.declared.cycle.Cycle.{Cycle}
use Rattle.rounds.proofs.GraceLaws.{run_none}
use Rattle.rounds.proofs.GraceLaws.{listed_run_out}
use Rattle.turns.proofs.TierLaws.{tiers, map-kept, set-kept, tier_of, settings_of, tags_long, listed_tags, tier2_same}
use Rattle.turns.proofs.InsideLaws.{Inside, inside_run_out, expired_inside}

-- graces that run out keep the number of tags
run_out_long : (T : Table) (ks : List ℕ) → length (run_out T ks).tags ≡ length T.tags
unfolding run_out put_table
run_out_long T [] = refl
run_out_long T (k ∷ ks) = run_out_long (set_table T k (after_of (tag_at T k).grace)) ks ∙ length-set T.tags k _

-- reading times keep the tiers
tiers_marked : (tags : List Tag) (clock : Float) (ks : List ℕ) → tiers (marked tags clock ks) ≡ tiers tags
unfolding marked
tiers_marked tags clock [] = refl
tiers_marked tags clock (k ∷ ks) = tiers_marked (set tags k (with_last (get_or tags k fresh_tag) clock)) clock ks ∙ set-kept tier_of tags k (with_last (get_or tags k fresh_tag) clock) refl

-- settings stay when graces run out, and when reading times are set
settings_run_out : (T : Table) (ks : List ℕ) → map settings_of (run_out T ks).tags ≡ map settings_of T.tags
unfolding run_out put_table tag_set
settings_run_out T [] = refl
settings_run_out T (k ∷ ks) = settings_run_out (set_table T k (after_of (tag_at T k).grace)) ks ∙ set-kept settings_of T.tags k _ refl

settings_marked : (tags : List Tag) (clock : Float) (ks : List ℕ) → map settings_of (marked tags clock ks) ≡ map settings_of tags
unfolding marked
settings_marked tags clock [] = refl
settings_marked tags clock (k ∷ ks) =
    settings_marked (set tags k (with_last (get_or tags k fresh_tag) clock)) clock ks ∙ set-kept settings_of tags k (with_last (get_or tags k fresh_tag) clock) refl

module _ (less : ℕ → ℕ → Bool) (o : Options) (P : Polling) (clock : Float) where
  abbrev T : Table
  T = P.table

  abbrev R : Round
  R = round less o P clock

  abbrev S : ℕ
  S = slices_of o.period o.cycle

  -- the table after the graces
  abbrev T1 : Table
  T1 = run_out T R.ran_out

  -- the graces that run out are of tags of the table
  ran_out_below : Listed T → Below (length T.tags) R.ran_out
  unfolding round
  ran_out_below l = expired_inside (length T.tags) T (record { order_inside = order_below T l; graces_inside = l.graced }) R.boundary clock

  -- after the graces have run out no tier changes
  round_tiers : tiers R.after.table.tags ≡ tiers T1.tags
  unfolding round
  round_tiers = map-kept tier_of settled (λ x. refl) (marked T1.tags clock R.due) ∙ tiers_marked T1.tags clock R.due

  -- a round keeps the settings of each tag
  pub round_settings : map settings_of R.after.table.tags ≡ map settings_of T.tags
  unfolding round
  round_settings =
      map-kept settings_of settled (λ x. refl) (marked T1.tags clock R.due) ∙ settings_marked T1.tags clock R.due ∙ settings_run_out T R.ran_out

  -- a round keeps the table listed, and the number of its tags
  pub listed-round : Listed T → Listed R.after.table
  unfolding round
  listed-round l = listed_tags T1 (map settled (marked T1.tags clock R.due)) round_tiers (listed_run_out T R.ran_out l (ran_out_below l))

  pub round_long : Listed T → length R.after.table.tags ≡ length T.tags
  round_long l = tags_long R.after.table.tags T1.tags round_tiers ∙ run_out_long T R.ran_out

  -- `tier2` is the tier-2 tags of the table that the round leaves
  pub tier2_left : tier2_tags less R.after.table.tags R.after.table.order ≡ R.tier2
  unfolding round
  tier2_left =
      let tags = marked T1.tags clock R.due in
      tier2_same less (map settled tags) tags (map-kept tier_of settled (λ x. refl) tags) T1.order

  -- a round keeps the tags of the table inside the directory
  pub inside_round : (n : ℕ) → Inside n T → Inside n R.after.table
  unfolding round
  inside_round n i =
      let j = inside_run_out n T R.ran_out i (expired_inside n T i R.boundary clock) in
      record { order_inside = j.order_inside; graces_inside = j.graces_inside }

  -- where no grace runs out, tiers, order and graces stay
  pub record Stays : Type 0 where
    pub tiers_stay : tiers R.after.table.tags ≡ tiers T.tags
    pub order_stays : R.after.table.order ≡ T.order
    pub graces_stay : R.after.table.graces ≡ T.graces

  pub none_ran_out : R.ran_out ≡ [] → Stays
  unfolding round
  none_ran_out e =
      let same : T1 ≡ T = ap (run_out T) e ∙ run_none T in
      record {
        tiers_stay = round_tiers ∙ ap (λ (x : Table). tiers x.tags) same;
        order_stays = ap (λ (x : Table). x.order) same;
        graces_stay = ap (λ (x : Table). x.graces) same;
      }

  -- no boundary: no grace runs out, and the index stays
  pub not_boundary : R.boundary ≡ false → (R.ran_out ≡ []) × (R.after.cycle.index ≡ P.cycle.index)
  unfolding round
  not_boundary e = (
    ap (λ (b : Bool). expired_at b T.tags T.graces clock) e,
    ap (λ (b : Bool). (cycle_after P.cycle b clock (next_index b S R.tier2 P.cycle.index)).index) e,
  )

  -- the last boundary is that of before, or now
  pub last_boundary : (Q : Cycle → Type 0) → Q P.cycle → ((i : ℕ) → Q (record { last = Some clock; index = i })) → ((i : ℕ) → Q P.cycle → Q (record { last = P.cycle.last; index = i })) → Q R.after.cycle
  unfolding round
  last_boundary Q q now same = go R.boundary (next_index R.boundary S R.tier2 P.cycle.index)
    where
      go : (b : Bool) (i : ℕ) → Q (cycle_after P.cycle b clock i)
      go true i = now i
      go false i = same i q

  -- a boundary: the slice is that of the index, and the index moves on
  pub at_boundary : R.boundary ≡ true → (R.slice ≡ slice S R.tier2 P.cycle.index) × (R.after.cycle.index ≡ next S R.tier2 P.cycle.index)
  unfolding round
  at_boundary e = (
    ap (λ (b : Bool). slice_taken b S R.tier2 P.cycle.index) e,
    ap (λ (b : Bool). (cycle_after P.cycle b clock (next_index b S R.tier2 P.cycle.index)).index) e,
  )
