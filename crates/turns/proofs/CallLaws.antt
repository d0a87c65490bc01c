-- Tier calls, loads, writes, stops, looks and creation.
use mathlib.Core.Path.{◌≡◌, refl, ap, sym, ◌∙◌}
use mathlib.Core.Bool.{Bool, true, false, not, cond, ◌||◌, ◌&&◌}
use mathlib.Core.List.{List, [], ◌∷◌}
use Prim.Native.Nat.{ℕ, ◌+◌, ◌*◌, ◌≤◌, ◌<◌}
use native.Mathlib.Omega.{arith}
use lib.Dec.{eqb, ltb}
use lib.Dec as Clock
use lib.Ieee.{Float, of_bits, le, lt}
use lib.Ieee.Scale.{finite}
use lib.ListN.{length, get_or, drop, replicate, length-take, length-drop, length-replicate, get_or-replicate, get_or-eq_default}
use borrow.Author.Tests.{leb-false, eqb-true, ltb-true, ltb-false}
use Rattle.lists.specs.Keep.{Below}
use Rattle.lists.proofs.KeepLaws.{below_more}
use Rattle.ieee.specs.Round.{slices_of}
use Rattle.ieee.specs.Times.{clock_ok}
use Rattle.ieee.proofs.Order.{yes, no, not-lt→le}
use Rattle.ieee.proofs.Finite.{clock_finite}
use Rattle.names.specs.Directory.{names_of, directory_check, max_names, max_name_length}
use Rattle.names.proofs.DirectoryLaws.{length_names, Checked, checked}
use Rattle.ranks.specs.Ranks.{words_of}
use Rattle.turns.proofs.TickLaws.{past_later}
use Rattle.words.specs.Value.{value_from}
use Rattle.table.specs.Tag.{fresh_tag}
use Rattle.table.specs.declared.tag.Tag.{Tag}
use Rattle.tiers.specs.Tiers.{set_tier}
use Rattle.board.specs.Board.{Table}
use Rattle.tiers.specs.Listed.{Listed, in_tier}
use Rattle.tiers.proofs.ListedLaws.{listed_tier}
use Rattle.panel.specs.Panel.{panel_room, count_in, loaded, panel_check, entry_check, tags_of, tiers_of}
use Rattle.panel.proofs.LoadLaws.{long_tier, loaded-listed}
use Rattle.heads.specs.Options.{cycle_ok, span_ok, options_check}
use Rattle.heads.specs.declared.options.Options.{Options}
use Rattle.turns.proofs.TierLaws.{tier_same, tags_long}
use Rattle.settings.specs.Settings.{settings_ok}
use Rattle.settings.specs.Configured.{configured_ok}
use Rattle.histories.specs.Events.{quiet, retiered, Each}
use Rattle.histories.specs.Histories.{at_each}
use Rattle.histories.specs.Respects.{Respects}
use Rattle.fresh.specs.Fresh.{fresh_board}
use Rattle.replies.specs.Worker.{Worker, at}
use Rattle.capi.specs.Calls.{tiered, wrote, halted, answer_of}
use Rattle.checks.specs.Calls.{clock_check, no_tag, tier_check, load_check, write_check}
use Rattle.capi.specs.Calls as calls
use Rattle.checks.specs.Creation.{Setup, creation_check}
use Rattle.checks.proofs.Laws.{first_zero}
use Rattle.capi.specs.Creation.{fresh_worker}
use Rattle.turns.specs.Calls.{Call, tier, load, steps, write, stop, look, accepted, after}
use Rattle.turns.specs.Demand.{round_in, event, Moment, moment}
use Rattle.turns.proofs.RateLaws.{rated_same, tier_settings, load_settings, rated_taken}
use Rattle.turns.proofs.InsideLaws.{inside_tier, inside_loaded, entries_inside}
use Rattle.turns.proofs.KeepLaws.{Keeps, index_kept, keeps_all, taken_tiers}
use Rattle.turns.proofs.StillLaws.{keeps_refl}
use Rattle.turns.proofs.SoundLaws.{Sound, LastPast, finite_number, index_of, listed_of, listed_kept, sound_kept, sound_step, respects_step}

-- check 23 refuses nothing
tag_found : (b c : Bool) → ◌≡◌ {A = ℕ} (cond b 23 (cond c 24 0)) 0 → b ≡ false
tag_found true c e = absurd (omega arith)
tag_found false c e = refl

-- ---- tier calls

module _ (o : Options) (ns : List (List ℕ)) (W : Worker) (s : Sound o ns W) where
  abbrev T : Table
  T = W.board.table

  -- Checks 21 and 22: an accepted clock reading is finite, and the last boundary is not ahead of it
  clock_met : (clock : Float) → clock_check W clock ≡ 0 → Clock.T (finite clock) × LastPast clock W.head.cycle
  unfolding clock_check
  clock_met clock e = go (clock_ok clock) refl (lt clock W.head.clock) refl e
    where
      go : (a : Bool) → clock_ok clock ≡ a → (b : Bool) → lt clock W.head.clock ≡ b → ◌≡◌ {A = ℕ} (cond (not a) 21 (cond b 22 0)) 0
          → Clock.T (finite clock) × LastPast clock W.head.cycle
      go false p b q e = absurd (omega arith)
      go true p true q e = absurd (omega arith)
      go true p false q e =
          let fine = clock_finite clock (yes p) in
          let later : Clock.T (le W.head.clock clock)
          = not-lt→le clock W.head.clock (finite_number clock fine) (finite_number W.head.clock s.clock_fine) (no q) in
          (fine, past_later W.head.clock clock later W.head.cycle.last s.last_past)

  -- an accepted tier call names a tag of the directory
  pub tier_inside : (clock : Float) (tag to : ℕ) → tier_check W clock tag to ≡ 0 → tag < W.head.count
  unfolding tier_check
  tier_inside clock tag to e = leb-false W.head.count tag (tag_found (no_tag W tag) (ltb 3 to) (first_zero (clock_check W clock) _ e).1)

  -- an accepted tier call keeps an engine sound
  sound_tiered : (clock : Float) (tag to : ℕ) → tier_check W clock tag to ≡ 0 → Sound o ns (tiered W clock tag to)
  unfolding tier_check
  sound_tiered clock tag to e =
      let h = tier_inside clock tag to e in
      let g : tag < length T.tags = omega (arith, h, s.few) in
      let grace = W.head.options.grace in
      let long = long_tier T s.listed tag g to grace clock in
      let c = clock_met clock (first_zero (clock_check W clock) _ e).0 in
      record {
        options_same = s.options_same;
        listed = listed_tier T s.listed tag g to grace clock;
        inside = inside_tier W.head.count T s.inside tag h to grace clock;
        few = rw long s.few;
        count_same = s.count_same;
        keys_same = s.keys_same;
        rated = rated_same (set_tier T tag to grace clock).tags T.tags (tier_settings T tag to grace clock) s.rated;
        clock_fine = c.0;
        last_past = c.1;
      }

  -- ---- loads

  -- a load keeps the number of tags
  loaded_long : (E : Table) (ks ts : List ℕ) (grace clock : Float) → Below (length E.tags) ks → Listed E → length (loaded E ks ts grace clock).tags ≡ length E.tags
  unfolding loaded
  loaded_long E [] ts grace clock b l = refl
  loaded_long E (k ∷ ks) [] grace clock b l = refl
  loaded_long E (k ∷ ks) (t ∷ ts) grace clock b l =
      let long = long_tier E l k b.0 t grace clock in
      loaded_long (set_tier E k t grace clock) ks ts grace clock (rw long b.1) (listed_tier E l k b.0 t grace clock) ∙ long

  -- an accepted list names tags of the directory alone
  pub panel_inside : (n : ℕ) (list : List ℕ) → panel_check n list ≡ 0 → Below n (tags_of list)
  unfolding panel_check tags_of tiers_of
  panel_inside n list e = go (eqb (length list) 0) refl (eqb (length list) (panel_room (count_in list))) refl e
    where
      go : (a : Bool) → eqb (length list) 0 ≡ a → (b : Bool) → eqb (length list) (panel_room (count_in list)) ≡ b
          → cond (a || not b) 51 (entry_check n [] (tags_of list) (tiers_of list)) ≡ 0 → Below n (tags_of list)
      go true p b q e = absurd (omega arith)
      go false p false q e = absurd (omega arith)
      go false p true q e =
          let long : length list ≡ 1 + 2 * count_in list = eqb-true (length list) (panel_room (count_in list)) q in
          entries_inside n [] (tags_of list) (tiers_of list)
          (omega (arith, length-take (count_in list) (drop 1 list), length-drop 1 list, length-take (count_in list) (drop (1 + count_in list) list), length-drop (1 + count_in list) list)) e

  -- an accepted load keeps an engine sound
  sound_loaded : (clock : Float) (list : List ℕ) → load_check W clock list ≡ 0 → Sound o ns (calls.loaded W clock list)
  unfolding load_check
  sound_loaded clock list e =
      let z = first_zero (clock_check W clock) _ e in
      let c = z.1 in
      let m = clock_met clock z.0 in
      let i : Below W.head.count (tags_of list) = panel_inside W.head.count list (first_zero (panel_check W.head.count list) _ c).0 in
      let b : Below (length T.tags) (tags_of list) = below_more W.head.count (length T.tags) (tags_of list) s.few i in
      let grace = W.head.options.grace in
      let long = loaded_long T (tags_of list) (tiers_of list) grace clock b s.listed in
      record {
        options_same = s.options_same;
        listed = loaded-listed T (tags_of list) (tiers_of list) grace clock b s.listed;
        inside = inside_loaded W.head.count T (tags_of list) (tiers_of list) grace clock i s.inside;
        few = rw long s.few;
        count_same = s.count_same;
        keys_same = s.keys_same;
        rated = rated_same (loaded T (tags_of list) (tiers_of list) grace clock).tags T.tags (load_settings T (tags_of list) (tiers_of list) grace clock) s.rated;
        clock_fine = m.0;
        last_past = m.1;
      }

-- ---- creation

-- no tag of a fresh table is in a tier
fresh_tier : (n k : ℕ) → (get_or (replicate n fresh_tag) k fresh_tag).tier ≡ 0
fresh_tier n k = go (ltb k n) refl
  where
    go : (b : Bool) → ltb k n ≡ b → (get_or (replicate n fresh_tag) k fresh_tag).tier ≡ 0
    go true e = ap (λ (x : Tag). x.tier) (get_or-replicate n k fresh_tag fresh_tag (ltb-true k n e))
    go false e = ap (λ (x : Tag). x.tier) (get_or-eq_default (replicate n fresh_tag) fresh_tag (omega (arith, length-replicate n fresh_tag, ltb-false k n e)))

-- Check 1: there is a name at least, and no more than a directory can have
directory_good : (s : Setup) → creation_check s ≡ 0 → Checked max_names max_name_length s.names s.ends
unfolding creation_check
directory_good s e = checked max_names max_name_length s.names s.ends (first_zero (directory_check max_names max_name_length s.names s.ends) _ e).0

pub names_some : (s : Setup) → creation_check s ≡ 0 → 1 ≤ length s.ends
names_some s e = (directory_good s e).some

pub names_few : (s : Setup) → creation_check s ≡ 0 → length s.ends ≤ max_names
names_few s e = (directory_good s e).few

-- Check 14
pub settings_good : (s : Setup) → creation_check s ≡ 0 → settings_ok (length s.ends) s.settings ≡ true
unfolding creation_check
settings_good s e = go (settings_ok (length s.ends) s.settings) refl (configured_ok s.groups) (first_zero (options_check s.options) _ (first_zero (directory_check max_names max_name_length s.names s.ends) _ e).1).1
  where
    go : (b : Bool) → settings_ok (length s.ends) s.settings ≡ b → (c : Bool) → ◌≡◌ {A = ℕ} (cond (b && c) 0 14) 0 → settings_ok (length s.ends) s.settings ≡ true
    go true p c e = p
    go false p c e = absurd (omega arith)

-- Check 11
pub cycle_good : (s : Setup) → creation_check s ≡ 0 → cycle_ok s.options.cycle ≡ true
unfolding creation_check options_check
cycle_good s e =
    go (cycle_ok s.options.cycle) refl (not (span_ok s.options.period)) (not (span_ok s.options.grace))
    (first_zero (options_check s.options) _ (first_zero (directory_check max_names max_name_length s.names s.ends) _ e).1).0
  where
    go : (b : Bool) → cycle_ok s.options.cycle ≡ b → (c d : Bool) → ◌≡◌ {A = ℕ} (cond (not b) 11 (cond c 12 (cond d 13 0))) 0 → cycle_ok s.options.cycle ≡ true
    go true p c d e = p
    go false p c d e = absurd (omega arith)

-- a fresh engine is sound
pub sound_fresh : (s : Setup) → creation_check s ≡ 0 → Sound s.options (names_of s.names s.ends) (fresh_worker s)
unfolding creation_check fresh_board
sound_fresh s e =
    let count = length s.ends in
    let rows = replicate count fresh_tag in
    let words = words_of (names_of s.names s.ends) in
    let same = taken_tiers false s.settings words rows in
    let tags = (fresh_board s.names s.ends s.settings s.groups).table.tags in
    let long : length tags ≡ count = tags_long tags rows same ∙ length-replicate count fresh_tag in
    record {
      options_same = refl;
      listed = record {
        once = λ k. ap in_tier (sym (tier_same tags rows same k ∙ fresh_tier count k));
        graced = tt;
        enough = omega (arith, long);
      };
      inside = record { order_inside = tt; graces_inside = tt };
      few = omega (arith, long);
      count_same = sym (length_names s.names s.ends);
      keys_same = refl;
      rated = rated_taken (length s.ends) s.settings (settings_good s e) false words rows;
      clock_fine = unfold of_bits in tt;
      last_past = tt;
    }

-- ---- every call

module _ (o : Options) (ns : List (List ℕ)) where
  abbrev S : ℕ
  S = slices_of o.period o.cycle

  -- a call that is refused leaves the engine as it was
  sound_if : (n : ℕ) (done W : Worker) → (n ≡ 0 → Sound o ns done) → Sound o ns W → Sound o ns (accepted n done W)
  sound_if n done W p q = go (eqb n 0) refl
    where
      go : (b : Bool) → eqb n 0 ≡ b → Sound o ns (cond b done W)
      go true e = p (eqb-true n 0 e)
      go false e = q

  -- the same of what is kept
  keeps_if : (b : Bool) (done W : Worker) → Keeps W done → Keeps W (cond b done W)
  keeps_if true done W k = k
  keeps_if false done W k = keeps_refl W

  -- a write keeps all that rule 6 goes by
  keeps_wrote : (W : Worker) (tag kind word : ℕ) → Keeps W (after (write tag kind word) W)
  unfolding after
  keeps_wrote W tag kind word =
      let v = value_from kind word in
      keeps_if (eqb (write_check W tag v) 0) (wrote W tag v) W (keeps_all W (wrote W tag v) refl refl refl refl refl refl)

  -- every call keeps an engine sound
  pub sound_after : (c : Call) (W : Worker) → Sound o ns W → Sound o ns (after c W)
  unfolding after
  sound_after (tier clock tag to) W s = sound_if (tier_check W clock tag to) _ W (sound_tiered o ns W s clock tag to) s
  sound_after (load clock list) W s = sound_if (load_check W clock list) _ W (sound_loaded o ns W s clock list) s
  sound_after (steps clock wall kind number message list out) W s = sound_step o ns W (at clock wall) (answer_of kind number message list) (length out) s
  sound_after (write tag kind word) W s = sound_kept W (after (write tag kind word) W) (keeps_wrote W tag kind word) o ns s
  sound_after stop W s = sound_kept W (halted W) (keeps_all W (halted W) refl refl refl refl refl refl) o ns s
  sound_after (look l) W s = s

  -- a tier call or a load, accepted or not, respects rule 6
  retiers : (b : Bool) (done W : Worker) → index_of done ≡ index_of W → Respects S index_of listed_of W (cond b retiered quiet) (cond b done W)
  unfolding Respects
  retiers true done W e = e
  retiers false done W e = (refl, refl)

  -- what keeps all that rule 6 goes by respects it
  stays : (W X : Worker) → Keeps W X → Respects S index_of listed_of W quiet X
  unfolding Respects
  stays W X k = (index_kept W X k, listed_kept W X k)

  -- every call of a sound engine respects rule 6
  pub respects_after : (c : Call) (W : Worker) → Sound o ns W → Respects S index_of listed_of W (event c W) (after c W)
  unfolding after event round_in
  respects_after (tier clock tag to) W s = retiers (eqb (tier_check W clock tag to) 0) (tiered W clock tag to) W refl
  respects_after (load clock list) W s = retiers (eqb (load_check W clock list) 0) (calls.loaded W clock list) W refl
  respects_after (steps clock wall kind number message list out) W s = respects_step o ns W (at clock wall) (answer_of kind number message list) (length out) s
  respects_after (write tag kind word) W s = stays W (after (write tag kind word) W) (keeps_wrote W tag kind word)
  respects_after stop W s = stays W (halted W) (keeps_all W (halted W) refl refl refl refl refl refl)
  respects_after (look l) W s = stays W W (keeps_refl W)

-- ---- lists of calls

-- What holds of each call on a sound engine holds of each call of a list, from a fresh engine on.
pub each_call : (s : Setup) → creation_check s ≡ 0 → (Q : Moment → Type 0) → ((c : Call) (W : Worker) → Sound s.options (names_of s.names s.ends) W → Q (moment c W))
    → (cs : List Call) → Each (at_each after moment cs (fresh_worker s)) Q
unfolding Each at_each
each_call s e Q q cs = go cs (fresh_worker s) (sound_fresh s e)
  where
    go : (cs : List Call) (W : Worker) → Sound s.options (names_of s.names s.ends) W → Each (at_each after moment cs W) Q
    go [] W v = tt
    go (c ∷ cs) W v = (q c W v, go cs (after c W) (sound_after s.options (names_of s.names s.ends) c W v))
