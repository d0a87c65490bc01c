-- No list is ever cut: every call of an engine comes to the same with more room.
use mathlib.Core.Path.{◌≡◌, refl, ap, sym, ◌∙◌}
use mathlib.Core.Bool.{Bool, true, false, cond}
use mathlib.Core.List.{List, [], ◌∷◌, ◌++◌, map}
use mathlib.Core.Option.{some}
use Prim.Native.Nat.{ℕ, zero, suc, ◌-◌, ◌*◌, ◌/◌, ◌≤◌, ◌<◌}
use native.Mathlib.Omega.{arith}
use lib.Dec.{eqb, ltb, leb}
use lib.Ieee.{Float}
use lib.ListN.{length, get_or, replicate, length-append, length-map, length-replicate, get_or-eq_default}
use borrow.Author.Tests.{eqb-true, ltb-true, ltb-false}
use Rattle.lists.specs.Keep.{Below}
use Rattle.lists.specs.Sort.{by_keys}
use Rattle.lists.proofs.KeepLaws.{below_more}
use Rattle.names.specs.Directory.{names_of, max_names}
use Rattle.names.proofs.DirectoryLaws.{length_names}
use Rattle.ranks.specs.Ranks.{over, word_code, words_of}
use Rattle.ranks.proofs.Laws.{over-all, each_long}
use Rattle.ranks.proofs.WordLaws.{word_differs, word_below}
use Rattle.words.specs.Value.{value_from}
use Rattle.memory.proofs.RowLaws.{map_at}
use Rattle.values.specs.declared.value.Value.{Value}
use Rattle.table.specs.Tag.{fresh_tag}
use Rattle.tiers.specs.Tiers.{set_tier}
use Rattle.panel.specs.Panel.{panel_check, tags_of, tiers_of}
use Rattle.settings.specs.Records.{records_in, every}
use Rattle.settings.specs.Settings.{max_groups, rate_ok}
use Rattle.settings.specs.Configured.{configured_from, given_groups, group_ok, configured_ok}
use Rattle.versions.specs.Versions.{tag_taken, taken_at, table_taken}
use Rattle.rounds.specs.Round.{Round, polling_of}
use Rattle.heads.specs.declared.options.Options.{Options}
use Rattle.heads.specs.declared.progress.After.TheVariants.{End}
use Rattle.lent.specs.Lent.{over_bytes, wrote_all}
use Rattle.lent.specs.Changes.{change_size}
use Rattle.lent.proofs.LentLaws.{all_fits}
use Rattle.histories.specs.Events.{Each}
use Rattle.histories.specs.Histories.{at_each, answers, states}
use Rattle.board.specs.Board.{Board, with_table, Table}
use Rattle.fresh.specs.Fresh.{fresh_board}
use Rattle.writes.specs.ReadBack.{read_back_tags}
use Rattle.replies.specs.declared.at.At.{At}
use Rattle.replies.specs.Worker.{Worker, Told, tell, at, goes_on}
use Rattle.cycles.specs.Polling.{waiting, writing, round_at, polled, poll, lastly, finished}
use Rattle.replies.specs.Reply as reply
use Rattle.step_checks.specs.Awaited.{Answer, contents, step_check}
use Rattle.worker.specs.Steps.{clocked, stepped, step}
use Rattle.checks.specs.Calls.{clock_check, tier_check, load_check, write_check}
use Rattle.capi.specs.Calls.{tiered, write_of, wrote, answer_of}
use Rattle.capi.specs.Calls as calls
use Rattle.checks.specs.Creation.{Setup, creation_check}
use Rattle.checks.proofs.Laws.{first_zero, write-room, groups-good}
use Rattle.capi.specs.Creation.{fresh_worker}
use Rattle.turns.specs.Calls.{Look, look_state, look_stats, look_counts, look_groups, look_table, look_panel, look_tag, Call, tier, load, steps, write, stop, look, Answer as Said, accepted, answer, after}
use Rattle.turns.specs.Demand.{Moment, moment}
use Rattle.turns.specs.Once.{answered_to}
use Rattle.uncut.specs.Uncut.{roomed, NeverCut, WholeStep, StepsWhole}
use Rattle.turns.proofs.KeepLaws.{Keeps}
use Rattle.turns.proofs.StillLaws.{still_writing, still_handled}
use Rattle.turns.proofs.StepLaws.{Accepted, accepted-step, step_cases}
use Rattle.turns.proofs.SoundLaws.{Sound, sound_kept, sound_clocked}
use Rattle.turns.proofs.RateLaws.{both}
use Rattle.turns.proofs.CallLaws.{tier_inside, panel_inside, names_some, names_few, settings_good, sound_fresh, sound_after}
use Rattle.uncut.proofs.FitLaws.{is_graced, numbered_taken, FitTable, numbers_of, Fits}
use Rattle.uncut.proofs.RoomLaws.{tier_roomed, fit_tier, load_roomed, list_few, room_enough}
use Rattle.uncut.proofs.AlikeLaws.{each_kept, fits_queue, Alike, alike_tell, alike_finished, alike_handled}

-- ---- a step

module _ (o : Options) (ns : List (List ℕ)) (rows n : ℕ) where
  module _ (W : Worker) (s : Sound o ns W) (f : Fits rows W.board) (at : At) (a : Answer) where
    -- the engine as an accepted answer leaves it is listed
    answered_sound : Accepted W at a → Sound o ns (answered_to W at a).left
    answered_sound c =
        let N = clocked W at in
        let kept : Keeps N (answered_to W at a).left = (still_handled W.head.progress.phase N at a c.awaits (unfold contents in c.holds)).keeps in
        sound_kept N (answered_to W at a).left kept o ns (sound_clocked o ns W at a c s)

    alike_answered : Accepted W at a → Alike rows n (answered_to W at a) (answered_to (roomed n W) at a)
    alike_answered c = alike_handled rows n W.head.progress.phase (clocked W at) f at a c.awaits (unfold contents in c.holds)

    alike_stepped : Accepted W at a → Alike rows n (stepped W at a) (stepped (roomed n W) at a)
    unfolding stepped
    alike_stepped c = alike_finished rows n at (answered_to W at a) (answered_to (roomed n W) at a) (alike_answered c) (answered_sound c).listed

    pub alike_step : (out : ℕ) → Alike rows n (step W at a out) (step (roomed n W) at a out)
    unfolding step step_check contents
    alike_step out = go (eqb (step_check W at a out) 0) refl
      where
        go : (b : Bool) → eqb (step_check W at a out) 0 ≡ b
            → Alike rows n (cond b (stepped W at a) (tell W (reply.refused (step_check W at a out)) [])) (cond b (stepped (roomed n W) at a) (tell (roomed n W) (reply.refused (step_check W at a out)) []))
        go true e = alike_stepped (accepted-step W at a out (eqb-true (step_check W at a out) 0 e))
        go false e = alike_tell rows n W (reply.refused (step_check W at a out)) [] f (omega arith)

    -- there is room for the list of the round that an accepted step works out
    pub round_room : Accepted W at a → (length (round_at (answered_to W at a).left at).list ≤ (round_at (answered_to W at a).left at).after.table.room)
    round_room c =
        let M = (answered_to W at a).left in
        let g = (alike_answered c).fits in
        let less = by_keys M.board.keys in
        let P = polling_of M.board M.head.cycle in
        let l = (answered_sound c).listed in
        omega (
          arith,
          list_few less rows n M.head.options P at.clock l g.table_fits g.groups_fit,
          room_enough less rows n M.head.options P at.clock l g.table_fits g.groups_fit,
        )

-- what follows a round works out none
lastly-round : (now : At) (T : Told) → (lastly T now).round ≡ T.round
lastly-round now T = go (goes_on T)
  where
    go : (b : Bool) → (cond b (record { left = (waiting T.left now).left; reply = (waiting T.left now).reply; bytes = []; round = T.round }) T).round ≡ T.round
    go true = refl
    go false = refl

-- a poll works out the round at its engine, or none
poll-round : (now : At) (W : Worker) (R : Round) → (poll W now).round ≡ some R → R ≡ round_at W now
unfolding poll polled
poll-round now W R = go W.head.link.stopping
  where
    go : (b : Bool) → (cond b (writing W now End) (polled W now (round_at W now))).round ≡ some R → R ≡ round_at W now
    go true e = let n = (still_writing now W End).no_round in let z : ◌≡◌ {A = ℕ} 0 1 = cc in absurd (omega arith)
    go false e = cc

stepped-round : (W : Worker) (now : At) (a : Answer) (R : Round) → Accepted W now a → (stepped W now a).round ≡ some R → R ≡ round_at (answered_to W now a).left now
unfolding stepped finished
stepped-round W now a R c = go (goes_on A)
  where
    A : Told
    A = answered_to W now a

    go : (b : Bool) → (cond b (lastly (poll A.left now) now) A).round ≡ some R → R ≡ round_at A.left now
    go true e = poll-round now A.left R (sym (lastly-round now (poll A.left now)) ∙ e)
    go false e =
        let n = (still_handled W.head.progress.phase (clocked W now) now a c.awaits (unfold contents in c.holds)).no_round in
        let z : ◌≡◌ {A = ℕ} 0 1 = cc in absurd (omega arith)

-- so the round of a step is the one at the engine as the answer leaves it
step-round : (W : Worker) (now : At) (a : Answer) (out : ℕ) (R : Round) → (step W now a out).round ≡ some R → Accepted W now a × (R ≡ round_at (answered_to W now a).left now)
step-round W now a out R =
    step_cases W now a out (λ (T : Told). T.round ≡ some R → Accepted W now a × (R ≡ round_at (answered_to W now a).left now))
    (λ n e. let z : ◌≡◌ {A = ℕ} 0 1 = cc in absurd (omega arith)) (λ c e. (c, stepped-round W now a R c e))

-- ---- the list that a step is lent

-- Check 43: one without a place for every name that a directory can have is refused
out_enough : (W : Worker) (now : At) (a : Answer) (out : ℕ) → step_check W now a out ≡ 0 → max_names ≤ out / change_size
unfolding step_check
out_enough W now a out e = go (ltb (out / change_size) max_names) refl _ e
  where
    go : (b : Bool) → ltb (out / change_size) max_names ≡ b → (m : ℕ) → ◌≡◌ {A = ℕ} (cond b 43 m) 0 → max_names ≤ out / change_size
    go true p m e = absurd (omega arith)
    go false p m e = ltb-false (out / change_size) max_names p

-- so all bytes of a step stand in it
bytes_written : (o : Options) (ns : List (List ℕ)) (rows n : ℕ) → rows ≤ max_names → (W : Worker) → Sound o ns W → Fits rows W.board → (now : At) (a : Answer) (out : List ℕ)
    → wrote_all out (step W now a (length out)).bytes ≡ over_bytes out (step W now a (length out)).bytes
unfolding step
bytes_written o ns rows n within W s f now a out = all_fits out (step W now a (length out)).bytes (go (eqb (step_check W now a (length out)) 0) refl)
  where
    go : (b : Bool) → eqb (step_check W now a (length out)) 0 ≡ b → length (step W now a (length out)).bytes ≤ length out
    go true e =
        let few = (alike_step o ns rows n W s f now a (length out)).bytes_few in
        omega (arith, few, within, out_enough W now a (length out) (eqb-true (step_check W now a (length out)) 0 e))
    go false e = rw e (omega arith)

-- ---- every call

module _ (o : Options) (ns : List (List ℕ)) (rows n : ℕ) where
  -- A call with more room: the engine that it leaves fits, and is the same but for the rooms; so is the answer.
  record Same (c : Call) (W : Worker) : Type 0 where
    fits : Fits rows (after c W).board
    after_same : after c (roomed n W) ≡ roomed n (after c W)
    answer_same : answer c (roomed n W) ≡ answer c W

  -- a call whose checks came to m: what it leaves
  record Left (m : ℕ) (done done' W : Worker) : Type 0 where
    left_fits : Fits rows (accepted m done W).board
    left_same : accepted m done' (roomed n W) ≡ roomed n (accepted m done W)

  left_if : (m : ℕ) (done done' W : Worker) → (m ≡ 0 → Fits rows done.board × (done' ≡ roomed n done)) → Fits rows W.board → Left m done done' W
  left_if m done done' W p f = go (eqb m 0) refl
    where
      go : (b : Bool) → eqb m 0 ≡ b → Left m done done' W
      go true e = let d = p (eqb-true m 0 e) in record { left_fits = rw e d.0; left_same = rw e d.1 }
      go false e = record { left_fits = rw e f; left_same = rw e }

  -- the table replaced
  fits_table : (B : Board) → Fits rows B → (T : Table) → FitTable rows T → Fits rows (with_table B T)
  fits_table B f T t = record { table_fits = t; groups_fit = f.groups_fit; named = f.named; asked_few = f.asked_few; queue_few = f.queue_few; some = f.some }

  module _ (W : Worker) (s : Sound o ns W) (f : Fits rows W.board) where
    abbrev T : Table
    T = W.board.table

    -- Rule 5: a tier call
    tier_left : (clock : Float) (tag to : ℕ) → Left (tier_check W clock tag to) (tiered W clock tag to) (tiered (roomed n W) clock tag to) W
    tier_left clock tag to =
        left_if (tier_check W clock tag to) _ _ W (λ e.
        let t = f.table_fits in
        let grace = W.head.options.grace in
        let h : tag < length T.tags = omega (arith, tier_inside o ns W s clock tag to e, s.few) in (
          fits_table W.board f (set_tier T tag to grace clock) (fit_tier rows T s.listed t tag h to grace clock),
          rw (tier_roomed n T s.listed tag h t.graced to grace clock),
        )) f

    -- Rule 11: a load
    load_left : (clock : Float) (list : List ℕ) → Left (load_check W clock list) (calls.loaded W clock list) (calls.loaded (roomed n W) clock list) W
    unfolding load_check
    load_left clock list =
        left_if (load_check W clock list) _ _ W (λ e.
        let i = panel_inside o ns W s W.head.count list (first_zero (panel_check W.head.count list) _ (first_zero (clock_check W clock) _ e).1).0 in
        let r = load_roomed rows n T s.listed f.table_fits (tags_of list) (tiers_of list) W.head.options.grace clock (below_more W.head.count (length T.tags) (tags_of list) s.few i) in
        (fits_table W.board f _ r.1, rw r.0)) f

    -- Rule 8: a write
    write_left : (tag : ℕ) (v : Value) → Left (write_check W tag v) (wrote W tag v) (wrote (roomed n W) tag v) W
    write_left tag v =
        left_if (write_check W tag v) _ _ W (λ e.
        let q = W.board.queue in
        let w = write_of tag v in
        (fits_queue rows W.board f (q ++ (w ∷ [])) (omega (arith, write-room W tag v e, length-append q (w ∷ []))), refl)) f

    -- no look goes by room
    look_same : (l : Look) → answer (look l) (roomed n W) ≡ answer (look l) W
    unfolding answer
    look_same look_state = refl
    look_same look_stats = refl
    look_same look_counts = refl
    look_same (look_groups out) = refl
    look_same (look_table out) = refl
    look_same (look_panel out) = refl
    look_same (look_tag tag) = refl

    -- every call
    same_call : (c : Call) → Same c W
    unfolding after answer tier_check clock_check load_check write_check
    same_call (tier clock tag to) = let x = tier_left clock tag to in record { fits = x.left_fits; after_same = x.left_same; answer_same = refl }
    same_call (load clock list) = let x = load_left clock list in record { fits = x.left_fits; after_same = x.left_same; answer_same = refl }
    same_call (steps clock wall kind number message list out) =
        let a = alike_step o ns rows n W s f (at clock wall) (answer_of kind number message list) (length out) in
        record { fits = a.fits; after_same = a.left_same; answer_same = rw (a.reply_same, a.bytes_same) }
    same_call (write tag kind word) = let x = write_left tag (value_from kind word) in record { fits = x.left_fits; after_same = x.left_same; answer_same = refl }
    same_call stop = record { fits = f; after_same = refl; answer_same = refl }
    same_call (look l) = record { fits = f; after_same = refl; answer_same = look_same l }

    -- the lists of a step
    whole_call : rows ≤ max_names → (c : Call) → WholeStep (moment c W)
    unfolding WholeStep
    whole_call within (tier clock tag to) = tt
    whole_call within (load clock list) = tt
    whole_call within (steps clock wall kind number message list out) =
        let now = at clock wall in
        let a = answer_of kind number message list in
        (λ R e. let r = step-round W now a (length out) R e in (r.1, rw r.1 (round_room o ns rows n W s f now a r.0)), bytes_written o ns rows n within W s f now a out)
    whole_call within (write tag kind word) = tt
    whole_call within stop = tt
    whole_call within (look l) = tt

-- ---- creation

-- no tag of a fresh table is in grace
fresh_grace : (m k : ℕ) → get_or (map is_graced (replicate m fresh_tag)) k false ≡ false
fresh_grace zero k = refl
fresh_grace (suc m) zero = refl
fresh_grace (suc m) (suc k) = fresh_grace m k

-- Check 14: the groups configured
numbers_below : (rs : List (List ℕ)) → every group_ok rs ≡ true → Below max_groups (numbers_of (map configured_from rs))
unfolding every group_ok configured_from
numbers_below [] e = tt
numbers_below (ws ∷ rs) e =
    let b = both (group_ok ws) (every group_ok rs) e in
    let h : get_or ws 0 0 < max_groups = ltb-true (get_or ws 0 0) max_groups (both (ltb (get_or ws 0 0) max_groups) (rate_ok (get_or ws 1 0)) b.0).0 in
    (omega arith, numbers_below rs b.1)

-- Rule 8: a tag and its word are no more than the tags of the directory, since the word is another one of them
module _ (ns : List (List ℕ)) (some : 1 ≤ length ns) (small : length ns ≤ max_names) where
  abbrev words : List ℕ
  words = words_of ns

  -- two tags
  two_few : (k : ℕ) → 1 < get_or words k 0 → 2 ≤ length ns
  two_few k h = go (ltb k (length ns)) refl
    where
      long : length words ≡ length ns
      long = each_long (word_code ns) (length ns)

      go : (b : Bool) → ltb k (length ns) ≡ b → 2 ≤ length ns
      go true e =
          let inside = ltb-true k (length ns) e in
          let same : over words words ≡ words = over-all words words refl in
          let other : get_or words k 0 - 2 ≡ k → ⊥ = (rw same at (word_differs words ns (omega (arith, long)) (omega arith) k inside)) h in
          let below : get_or words k 0 - 2 < length ns = (rw same at (word_below words ns (omega (arith, long)) (omega arith) k inside)) h in
          omega (arith, inside, other, below)
      go false e = let none : get_or words k 0 ≡ 0 = get_or-eq_default words 0 (omega (arith, long, ltb-false k (length ns) e)) in absurd (omega arith)

  backs_few : (k : ℕ) → length (read_back_tags words k) ≤ length ns
  backs_few k = go (ltb 1 (get_or words k 0)) refl
    where
      go : (b : Bool) → ltb 1 (get_or words k 0) ≡ b → length (k ∷ cond b ((get_or words k 0 - 2) ∷ []) []) ≤ length ns
      go true e = omega (arith, two_few k (ltb-true 1 (get_or words k 0) e))
      go false e = omega arith

-- a fresh engine fits
module _ (s : Setup) (e : creation_check s ≡ 0) where
  -- the numbers of the groups that creation is given are 0 to 15
  configured-below : Below max_groups (numbers_of (fresh_worker s).board.configured)
  unfolding fresh_board given_groups configured_ok
  configured-below =
      numbers_below (records_in 2 s.groups) (both (leb (length s.groups / 16) max_groups) _ (both (eqb (length s.groups) (16 * (length s.groups / 16))) _ (groups-good s e)).1).1

  fresh_fits : Fits (length s.ends) (fresh_worker s).board
  unfolding fresh_board tag_taken
  fresh_fits =
      let ns = names_of s.names s.ends in
      let count = length s.ends in
      let few : length ns ≡ count = length_names s.names s.ends in
      let rows = replicate count fresh_tag in
      let tags = table_taken false s.settings (words_of ns) rows in
      let same : map is_graced tags ≡ map is_graced rows = each_kept is_graced (taken_at false s.settings (words_of ns)) (λ i x. refl) 0 rows in
      let long : length tags ≡ count = sym (length-map tags is_graced) ∙ ap length same ∙ length-map rows is_graced ∙ length-replicate count fresh_tag in
      record {
        table_fits = record {
          graced = record {
            once = λ k. ap (λ (b : Bool). cond b 1 0) (sym (sym (map_at is_graced tags k fresh_tag) ∙ ap (λ (l : List Bool). get_or l k false) same ∙ fresh_grace count k));
            enough = omega (arith, long);
          };
          long = long;
          numbered = numbered_taken count s.settings (settings_good s e) false (words_of ns) rows;
          backs = λ k. omega (arith, few, backs_few ns (omega (arith, few, names_some s e)) (omega (arith, few, names_few s e)) k);
        };
        groups_fit = record { numbers = record { once = λ k. omega arith; below = tt }; enough = omega arith };
        named = configured-below;
        asked_few = omega arith;
        queue_few = omega arith;
        some = names_some s e;
      }

-- ---- lists of calls

-- What holds of each call on an engine that is sound and fits holds of each call of a list, from a fresh engine on.
pub each_fit : (s : Setup) → creation_check s ≡ 0 → (Q : Moment → Type 0)
    → ((c : Call) (W : Worker) → Sound s.options (names_of s.names s.ends) W → Fits (length s.ends) W.board → Q (moment c W))
    → (cs : List Call) → Each (at_each after moment cs (fresh_worker s)) Q
unfolding Each at_each
each_fit s e Q q cs = go cs (fresh_worker s) (sound_fresh s e) (fresh_fits s e)
  where
    ns : List (List ℕ)
    ns = names_of s.names s.ends

    go : (cs : List Call) (W : Worker) → Sound s.options ns W → Fits (length s.ends) W.board → Each (at_each after moment cs W) Q
    go [] W v f = tt
    go (c ∷ cs) W v f = (q c W v f, go cs (after c W) (sound_after s.options ns c W v) (same_call s.options ns (length s.ends) 0 W v f c).fits)

-- Every list of calls is answered the same with more room.
pub never_cut : NeverCut
unfolding NeverCut at_each
never_cut s e cs n = let r = go cs (fresh_worker s) (sound_fresh s e) (fresh_fits s e) in record { same = r.0; kept = r.1 }
  where
    ns : List (List ℕ)
    ns = names_of s.names s.ends

    go : (cs : List Call) (W : Worker) → Sound s.options ns W → Fits (length s.ends) W.board
        → (answers after answer cs (roomed n W) ≡ answers after answer cs W) × (states after cs (roomed n W) ≡ map (roomed n) (states after cs W))
    go [] W v f = (refl, refl)
    go (c ∷ cs) W v f =
        let x = same_call s.options ns (length s.ends) n W v f c in
        let r = go cs (after c W) (sound_after s.options ns c W v) x.fits in (
          rw (x.answer_same, x.after_same) (ap (λ (l : List Said). answer c W ∷ l) r.0),
          rw x.after_same (ap (λ (l : List Worker). roomed n (after c W) ∷ l) r.1),
        )

-- There is room for the list of every round, and for all that steps tell.
pub steps_whole : StepsWhole
unfolding StepsWhole
steps_whole s e cs = each_fit s e WholeStep (λ c W v f. whole_call s.options (names_of s.names s.ends) (length s.ends) 0 W v f (names_few s e) c) cs
