-- Tier changes, loads and rounds come to the same with more room, and keep what fits.
use mathlib.Core.Path.{◌≡◌, refl, ap, sym, ◌∙◌}
use mathlib.Core.Bool.{Bool, true, false, not, cond}
use mathlib.Core.List.{List, [], ◌∷◌, ◌++◌, map}
use Prim.Native.Nat.{ℕ, ◌+◌, ◌≤◌, ◌<◌}
use native.Mathlib.Omega.{arith}
use lib.Dec.{eqb}
use lib.Ieee.{Float, binary64, le, add, div}
use lib.ListN.{length}
use lib.Seq.{get_or-set_same}
use borrow.Author.Tests.{eqb-true}
use Rattle.std.specs.Prelude.{Option, is_some}
use Rattle.ieee.specs.Round.{float, slices_of}
use Rattle.lists.specs.Keep.{keep, count, Below}
use Rattle.lists.proofs.CountLaws.{length_fewer}
use Rattle.tags.specs.Lists.{pushed}
use Rattle.table.specs.Tag.{f0, no_grace, fresh_tag}
use Rattle.table.specs.Table.{with_grace, by_rank}
use Rattle.table.specs.declared.tag.Grace.{Grace}
use Rattle.table.specs.declared.tag.Tag.{Tag}
use Rattle.tiers.specs.Tiers.{tag_set, order_set, grace_ended, put_table, set_table, enter_grace, change_grace, set_tier}
use Rattle.board.specs.Board.{Table, tag_at, is_bit, with_tags}
use Rattle.tiers.specs.Listed.{Listed, in_tier}
use Rattle.tiers.specs.Graced.{Graced}
use Rattle.tiers.proofs.ListedLaws.{order_below, set_long, listed-set, listed_tier}
use Rattle.tiers.proofs.GracedLaws.{graces_once, graces-below, graced_set, graced_tier}
use Rattle.panel.specs.Panel.{loaded}
use Rattle.panel.proofs.LoadLaws.{long_tier}
use Rattle.groups.specs.Groups.{Groups}
use Rattle.slices.specs.Slice.{tier2_tags, slice_taken, next_index}
use Rattle.rounds.specs.Graces.{run_out, after_of}
use Rattle.rounds.specs.Due.{due_tags, marked, recorded_due, none_seen}
use Rattle.rounds.specs.Added.{with_added_tags, settled}
use Rattle.rounds.specs.Missing.{not_held_back}
use Rattle.rounds.specs.Round.{Polling, Round, cycle_after, round}
use Rattle.heads.specs.declared.options.Options.{Options}
use Rattle.heads.specs.declared.cycle.Cycle.{Cycle}
use Rattle.rounds.proofs.GraceLaws.{expired-below}
use Rattle.rounds.proofs.OnceLaws.{order_once, round_short}
use Rattle.rounds.proofs.GracedLaws.{graced_round}
use Rattle.uncut.specs.Uncut.{table_roomed, groups_roomed}
use Rattle.turns.proofs.TierLaws.{settings_of, map-kept}
use Rattle.turns.proofs.RateLaws.{tier_settings}
use Rattle.turns.proofs.RoundLaws.{round_settings, round_long}
use Rattle.uncut.proofs.FitLaws.{pushed_same, numbered_same, FitTable, FitGroups, Noted, due_fits}

-- ---- tier changes

-- either of two
either : (n : ℕ) (b : Bool) (x x' y y' : Table) → x' ≡ table_roomed n x → y' ≡ table_roomed n y → cond b x' y' ≡ table_roomed n (cond b x y)
either n true x x' y y' p q = p
either n false x x' y y' p q = q

module _ (n : ℕ) (T : Table) (l : Listed T) (k : ℕ) (h : k < length T.tags) where
  -- a tag that enters finds room
  order_short : (tag_at T k).tier ≡ 0 → length T.order < length T.tags
  order_short z = length_fewer (length T.tags) k T.order (order_below T l) (order_once T l) h (l.once k ∙ ap in_tier z)

  order-roomed : (tier : ℕ) → order_set (T.room + n) T.order k (tag_at T k).tier tier ≡ order_set T.room T.order k (tag_at T k).tier tier
  unfolding order_set
  order-roomed tier = go (eqb (tag_at T k).tier 0) refl (eqb tier 0)
    where
      go : (a : Bool) → eqb (tag_at T k).tier 0 ≡ a → (b : Bool)
          → ◌≡◌ {A = List ℕ} (cond a (cond b T.order (pushed (T.room + n) T.order k)) (cond b (keep (λ (x : ℕ). not (eqb k x)) T.order) T.order))
          (cond a (cond b T.order (pushed T.room T.order k)) (cond b (keep (λ (x : ℕ). not (eqb k x)) T.order) T.order))
      go true e true = refl
      go true e false =
          let s = order_short (eqb-true (tag_at T k).tier 0 e) in
          pushed_same (T.room + n) T.room T.order k (omega (arith, s, l.enough)) (omega (arith, s, l.enough))
      go false e b = refl

  put_roomed : (tier : ℕ) (g : Option Grace) → put_table (table_roomed n T) k tier g ≡ table_roomed n (put_table T k tier g)
  unfolding put_table
  put_roomed tier g = rw (order-roomed tier)

  set-roomed : (tier : ℕ) → set_table (table_roomed n T) k tier ≡ table_roomed n (set_table T k tier)
  set-roomed tier = put_roomed tier no_grace

  module _ (g : Graced T) where
    abbrev ended : List ℕ
    ended = grace_ended T.graces k (is_some (tag_at T k).grace)

    -- a tag that enters a grace finds room
    ended_short : length ended < length T.tags
    unfolding put_table
    ended_short =
        let x = with_grace (tag_set (tag_at T k) (is_bit T k) 0) no_grace in
        let s = set_table T k 0 in
        let gs : Graced s = graced_set T g k h 0 in
        let long : length s.tags ≡ length T.tags = set_long T l k h 0 in
        let off : count k ended ≡ 0 = gs.once k ∙ ap (λ (y : Tag). cond (is_some y.grace) 1 0) (get_or-set_same T.tags k x fresh_tag h) in
        length_fewer (length T.tags) k ended (rw long at (graces-below s gs)) (graces_once s gs) h off

    enter_roomed : (deadline : Float) (after : ℕ) → enter_grace (table_roomed n T) k deadline after ≡ table_roomed n (enter_grace T k deadline after)
    unfolding enter_grace put_table
    enter_roomed deadline after =
        rw (order-roomed 2, pushed_same (T.room + n) T.room ended k (omega (arith, ended_short, g.enough)) (omega (arith, ended_short, g.enough)))

    -- Rule 5: a tier call
    pub tier_roomed : (tier : ℕ) (grace clock : Float) → set_tier (table_roomed n T) k tier grace clock ≡ table_roomed n (set_tier T k tier grace clock)
    unfolding set_tier
    tier_roomed tier grace clock =
        let now = set-roomed tier in
        either n (eqb tier 1) _ _ _ _ now
        (either n (eqb tier 2) _ _ _ _ now
        (either n (le grace f0) _ _ _ _ now
        (either n (eqb (tag_at T k).tier 1) _ _ _ _ (enter_roomed (add binary64 clock grace) tier)
        (either n (is_some (tag_at T k).grace) _ (change_grace (table_roomed n T) k tier) _ _ refl now))))

-- a tier call keeps the words of bits
either-words : (ws : List ℕ) (b : Bool) (x y : Table) → x.words ≡ ws → y.words ≡ ws → (cond b x y).words ≡ ws
either-words ws true x y p q = p
either-words ws false x y p q = q

tier_words : (T : Table) (k tier : ℕ) (grace clock : Float) → (set_tier T k tier grace clock).words ≡ T.words
unfolding set_tier enter_grace put_table
tier_words T k tier grace clock =
    let w = T.words in
    either-words w (eqb tier 1) _ _ refl
    (either-words w (eqb tier 2) _ _ refl
    (either-words w (le grace f0) _ _ refl
    (either-words w (eqb (tag_at T k).tier 1) _ _ refl
    (either-words w (is_some (tag_at T k).grace) _ _ refl refl))))

-- so do graces that run out
run_out_words : (T : Table) (ks : List ℕ) → (run_out T ks).words ≡ T.words
unfolding run_out put_table
run_out_words T [] = refl
run_out_words T (k ∷ ks) = run_out_words (set_table T k (after_of (tag_at T k).grace)) ks

-- a tier call keeps what fits
pub fit_tier : (rows : ℕ) (T : Table) → Listed T → FitTable rows T → (k : ℕ) → k < length T.tags → (tier : ℕ) (grace clock : Float) → FitTable rows (set_tier T k tier grace clock)
fit_tier rows T l f k h tier grace clock = record {
  graced = graced_tier T f.graced k h tier grace clock;
  long = long_tier T l k h tier grace clock ∙ f.long;
  numbered = numbered_same (set_tier T k tier grace clock).tags T.tags (tier_settings T k tier grace clock) f.numbered;
  backs = rw (tier_words T k tier grace clock) f.backs;
}

-- Rule 11: a load is tier calls
pub load_roomed : (rows n : ℕ) (T : Table) → Listed T → FitTable rows T → (ks ts : List ℕ) (grace clock : Float) → Below (length T.tags) ks
    → (loaded (table_roomed n T) ks ts grace clock ≡ table_roomed n (loaded T ks ts grace clock)) × FitTable rows (loaded T ks ts grace clock)
unfolding loaded
load_roomed rows n T l f [] ts grace clock b = (refl, f)
load_roomed rows n T l f (k ∷ ks) [] grace clock b = (refl, f)
load_roomed rows n T l f (k ∷ ks) (t ∷ ts) grace clock b =
    let X = set_tier T k t grace clock in
    let r = load_roomed rows n X (listed_tier T l k b.0 t grace clock) (fit_tier rows T l f k b.0 t grace clock) ks ts grace clock (rw (long_tier T l k b.0 t grace clock) b.1) in
    (ap (λ (Y : Table). loaded Y ks ts grace clock) (tier_roomed n T l k b.0 f.graced t grace clock) ∙ r.0, r.1)

-- Rule 6: graces that run out
run_out_roomed : (n : ℕ) (T : Table) → Listed T → (ks : List ℕ) → Below (length T.tags) ks → run_out (table_roomed n T) ks ≡ table_roomed n (run_out T ks)
unfolding run_out
run_out_roomed n T l [] b = refl
run_out_roomed n T l (k ∷ ks) b =
    let after = (after_of (tag_at T k).grace) in
    let long = set_long T l k b.0 after in
    ap (λ (Y : Table). run_out Y ks) (set-roomed n T l k b.0 after)
    ∙ run_out_roomed n (set_table T k after) (listed-set T l k after b.0) ks (rw long b.1)

-- ---- a round

abbrev polling : Table → Groups → Cycle → Polling
polling T G c = record { table = T; groups = G; cycle = c }

abbrev pub polling_roomed : ℕ → Polling → Polling
polling_roomed n P = record { table = table_roomed n P.table; groups = groups_roomed n P.groups; cycle = P.cycle }

module _ (less : ℕ → ℕ → Bool) (rows n : ℕ) (o : Options) (P : Polling) (clock : Float) (l : Listed P.table) (f : FitTable rows P.table) (g : FitGroups P.groups) where
  abbrev R : Round
  R = round less o P clock

  abbrev R' : Round
  R' = round less o (polling_roomed n P) clock

  abbrev T : Table
  T = P.table

  abbrev left : Table
  left = run_out T R.ran_out

  -- what is worked out over the table that the graces leave
  abbrev due_of : Table → List ℕ
  due_of X = due_tags X.tags X.order clock (div binary64 R.tick (float 2)) o.cycle

  abbrev read_of : Table → List Tag
  read_of X = marked X.tags clock (due_of X)

  abbrev tier2_of : Table → List ℕ
  tier2_of X = tier2_tags less (read_of X) X.order

  abbrev slice_of : Table → List ℕ
  slice_of X = slice_taken R.boundary (slices_of o.period o.cycle) (tier2_of X) P.cycle.index

  abbrev list_of : Table → List ℕ
  list_of X = not_held_back (read_of X) (with_added_tags (read_of X) (due_of X ++ slice_of X) (by_rank (read_of X))) clock

  abbrev read : List Tag
  read = read_of left

  ran_out_below : Below (length T.tags) R.ran_out
  unfolding round
  ran_out_below = expired-below T l R.boundary clock

  left_same : run_out (table_roomed n T) R.ran_out ≡ table_roomed n left
  left_same = run_out_roomed n T l R.ran_out ran_out_below

  pub list_same : R'.list ≡ R.list
  unfolding round
  list_same = ap list_of left_same

  pub tick_same : R'.tick ≡ R.tick
  unfolding round
  tick_same = refl

  pub boundary_same : R'.boundary ≡ R.boundary
  unfolding round
  boundary_same = refl

  -- the groups of the tags as they are read
  due_noted : Noted n (recorded_due read clock none_seen P.groups R.due) (recorded_due read clock none_seen (groups_roomed n P.groups) R.due)
  unfolding round
  due_noted =
      due_fits n read (numbered_same read T.tags (sym (map-kept settings_of settled (λ x. refl) read) ∙ round_settings less o P clock) f.numbered)
      clock none_seen P.groups g R.due

  -- the table, the groups and the last boundary that it leaves
  pub after_same : R'.after ≡ polling_roomed n R.after
  unfolding round
  after_same =
      let S = slices_of o.period o.cycle in
      let ends : Table → Cycle = λ X. cycle_after P.cycle R.boundary clock (next_index R.boundary S (tier2_of X) P.cycle.index) in
      let noted : Table → Groups = λ X. recorded_due (read_of X) clock none_seen (groups_roomed n P.groups) (due_of X) in
      ap (λ (X : Table). polling (with_tags X (map settled (read_of X))) (noted X) (ends X)) left_same
      ∙ ap (λ (G : Groups). polling (with_tags (table_roomed n left) (map settled read)) G (ends left)) due_noted.same

  -- a round keeps what fits
  round-words : R.after.table.words ≡ T.words
  unfolding round
  round-words = run_out_words T R.ran_out

  pub round_fits : FitTable rows R.after.table
  round_fits = record {
    graced = graced_round less o P clock l f.graced;
    long = round_long less o P clock l ∙ f.long;
    numbered = numbered_same R.after.table.tags T.tags (round_settings less o P clock) f.numbered;
    backs = rw round-words f.backs;
  }

  pub groups_fit : FitGroups R.after.groups
  unfolding round
  groups_fit = due_noted.fits

  -- there is room for its list
  pub list_few : length R.list ≤ rows
  list_few = omega (arith, round_short less o P clock l, f.long)

  pub room_enough : rows ≤ R.after.table.room
  room_enough = omega (arith, round_fits.graced.enough, round_fits.long)
