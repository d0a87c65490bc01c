-- Every call of an engine keeps it sound, and respects rule 6.
use mathlib.Core.Path.{◌≡◌, refl, ap, sym, ◌∙◌, subst}
use mathlib.Core.Bool.{Bool, true, false, not, cond, true≢false}
use mathlib.Core.List.{List, [], ◌∷◌}
use mathlib.Core.Option.{Option}
use Prim.Native.Nat.{ℕ, ◌≤◌}
use lib.Dec.{T}
use lib.Ieee.{Float, nan, inf, fin, le, is_nan}
use lib.Ieee.Scale.{finite}
use lib.ListN.{length}
use Rattle.lists.specs.Keep.{count}
use Rattle.lists.specs.Slices.{slice, next}
use Rattle.lists.specs.Sort.{by_keys}
use Rattle.ieee.specs.Round.{slices_of}
use Rattle.ieee.proofs.Order.{yes, no, le_refl_float, not-lt→le}
use Rattle.ieee.proofs.Finite.{clock_finite}
use Rattle.ranks.specs.Ranks.{keys_of}
use Rattle.tiers.specs.Listed.{Listed, in_tier}
use Rattle.slices.specs.Slice.{is_tier2, tier2_tags}
use Rattle.rounds.specs.Round.{Round, Polling, polling_of}
use Rattle.heads.specs.declared.options.Options.{Options}
use Rattle.heads.specs.declared.cycle.Cycle.{Cycle}
use Rattle.turns.proofs.TierLaws.{tier_same, tags_long, tier2_same, tier2_once}
use Rattle.turns.proofs.TickLaws.{Rated, Past, past_later}
use Rattle.turns.proofs.RateLaws.{rated_same}
use Rattle.turns.proofs.RoundLaws.{listed-round, round_long, round_settings, inside_round, tier2_left, none_ran_out, not_boundary, last_boundary, at_boundary}
use Rattle.histories.specs.Events.{Event, quiet, retiered, took}
use Rattle.histories.specs.Respects.{Respects}
use Rattle.replies.specs.declared.at.At.{At}
use Rattle.replies.specs.Worker.{Worker, Told}
use Rattle.replies.specs.Losing.{is_empty}
use Rattle.cycles.specs.Polling.{round_at, with_worked}
use Rattle.step_checks.specs.Awaited.{Answer}
use Rattle.worker.specs.Steps.{clocked, stepped, step}
use Rattle.turns.specs.Demand.{of_round}
use Rattle.turns.proofs.InsideLaws.{Inside}
use Rattle.turns.proofs.KeepLaws.{Keeps, index_kept}
use Rattle.turns.proofs.StepLaws.{Did, nothing, one_round, did_stepped, Accepted, step_cases}

-- Rule 6: the slice index, and the tier-2 tags in slice order
abbrev pub index_of : Worker → ℕ
index_of W = W.head.cycle.index

abbrev pub listed_of : Worker → List ℕ
listed_of W = tier2_tags (by_keys W.board.keys) W.board.table.tags W.board.table.order

-- the last boundary, if there was one, is not ahead of the clock
abbrev pub LastPast : Float → Cycle → Type 0
LastPast clock x = Past clock x.last

-- What every engine meets that was made with the options o and the names ns: the table is listed, with room for its tags, and has no other tags than the
-- directory, the sort keys are those of the names, rates are 1 ms or more, and the last boundary is not ahead of the clock.
pub record Sound (o : Options) (ns : List (List ℕ)) (W : Worker) : Type 0 where
  pub options_same : W.head.options ≡ o
  pub listed : Listed W.board.table
  pub inside : Inside W.head.count W.board.table
  pub few : W.head.count ≤ length W.board.table.tags
  pub count_same : W.head.count ≡ length ns
  pub keys_same : W.board.keys ≡ keys_of ns
  pub rated : Rated W.board.table.tags
  pub clock_fine : T (finite W.head.clock)
  pub last_past : LastPast W.head.clock W.head.cycle

-- what is finite is a number
pub finite_number : (x : Float) → T (finite x) → T (not (is_nan x))
unfolding is_nan
finite_number nan h = absurd h
finite_number (inf s) h = absurd h
finite_number (fin s m e) h = tt

-- ---- what is kept

module _ (A B : Worker) (k : Keeps A B) where
  -- the tier-2 tags in slice order stay
  pub listed_kept : listed_of B ≡ listed_of A
  listed_kept =
      ap (λ (l : List ℕ). tier2_tags (by_keys l) B.board.table.tags B.board.table.order) k.keys_kept
      ∙ ap (λ (l : List ℕ). tier2_tags (by_keys A.board.keys) B.board.table.tags l) k.order-kept
      ∙ tier2_same (by_keys A.board.keys) B.board.table.tags A.board.table.tags k.tiers_kept A.board.table.order

  -- so does soundness
  pub sound_kept : (o : Options) (ns : List (List ℕ)) → Sound o ns A → Sound o ns B
  sound_kept o ns s =
      let TA = A.board.table in
      let TB = B.board.table in
      let long : length TB.tags ≡ length TA.tags = tags_long TB.tags TA.tags k.tiers_kept in
      record {
        options_same = k.options_kept ∙ s.options_same;
        listed = record {
          once = λ t. ap (count t) k.order-kept ∙ s.listed.once t ∙ ap in_tier (sym (tier_same TB.tags TA.tags k.tiers_kept t));
          graced = rw (long, k.graces-kept) s.listed.graced;
          enough = rw (long, k.room-kept) s.listed.enough;
        };
        inside = record {
          order_inside = rw (k.count_kept, k.order-kept) s.inside.order_inside;
          graces_inside = rw (k.count_kept, k.graces-kept) s.inside.graces_inside;
        };
        few = rw (k.count_kept, long) s.few;
        count_same = k.count_kept ∙ s.count_same;
        keys_same = k.keys_kept ∙ s.keys_same;
        rated = k.rated_kept s.rated;
        clock_fine = rw k.clock_kept s.clock_fine;
        last_past = rw (k.clock_kept, k.cycle_kept) s.last_past;
      }

-- ---- a round

module _ (o : Options) (ns : List (List ℕ)) (M : Worker) (at : At) (s : Sound o ns M) where
  -- what the round goes by
  abbrev pub less : ℕ → ℕ → Bool
  less = by_keys M.board.keys

  abbrev pub P : Polling
  P = polling_of M.board M.head.cycle

  abbrev pub R : Round
  R = round_at M at

  abbrev pub left : Worker
  left = with_worked M at R

  -- the table that the round leaves is listed, and has tags of the directory alone
  pub round-listed : Listed left.board.table
  round-listed = listed-round less M.head.options P at.clock s.listed

  pub round_inside : Inside M.head.count left.board.table
  round_inside = inside_round less M.head.options P at.clock M.head.count s.inside

  -- the engine that it leaves is sound, where the clock is that of the round
  sound_round : M.head.clock ≡ at.clock → Sound o ns left
  sound_round now =
      let long = round_long less M.head.options P at.clock s.listed in
      let fine : T (finite at.clock) = rw now at s.clock_fine in
      record {
        options_same = s.options_same;
        listed = round-listed;
        inside = round_inside;
        few = rw long s.few;
        count_same = s.count_same;
        keys_same = s.keys_same;
        rated = rated_same left.board.table.tags M.board.table.tags (round_settings less M.head.options P at.clock) s.rated;
        clock_fine = s.clock_fine;
        last_past =
            last_boundary less M.head.options P at.clock (LastPast M.head.clock) s.last_past
            (λ i. (fine, rw now (le_refl_float at.clock (finite_number at.clock fine)))) (λ i q. q);
      }

  -- the tier-2 tags that it leaves are those it went by
  tier2_is : R.tier2 ≡ listed_of left
  tier2_is = sym (tier2_left less M.head.options P at.clock)

  -- where no grace runs out the tier-2 tags stay
  same_listed : R.ran_out ≡ [] → listed_of left ≡ listed_of M
  same_listed e =
      let z = none_ran_out less M.head.options P at.clock e in
      ap (λ (l : List ℕ). tier2_tags less left.board.table.tags l) z.order_stays
      ∙ tier2_same less left.board.table.tags M.board.table.tags z.tiers_stay M.board.table.order

-- nothing in a list
none_in : (l : List ℕ) → not (is_empty l) ≡ false → l ≡ []
none_in [] e = refl
none_in (x ∷ l) e = absurd (true≢false e)

-- ---- a step

-- what is done to an engine with the same index and the same tier-2 tags
respects_from : (S : ℕ) (W N : Worker) → index_of N ≡ index_of W → listed_of N ≡ listed_of W → (e : Event) (L : Worker) → Respects S index_of listed_of N e L → Respects S index_of listed_of W e L
unfolding Respects
respects_from S W N i l quiet L p = (p.0 ∙ i, p.1 ∙ l)
respects_from S W N i l retiered L p = p ∙ i
respects_from S W N i l (took ran_out tier2 names) L p = (λ h. p.0 h ∙ l, p.1 ∙ ap (slice S (listed_of L)) i, p.2 ∙ ap (next S (listed_of L)) i, p.3)

module _ (o : Options) (ns : List (List ℕ)) where
  abbrev S : ℕ
  S = slices_of o.period o.cycle

  -- the clock of an accepted step
  pub sound_clocked : (W : Worker) (at : At) (a : Answer) → Accepted W at a → Sound o ns W → Sound o ns (clocked W at)
  sound_clocked W at a c s =
      let fine = clock_finite at.clock (yes c.clock_good) in
      let later : T (le W.head.clock at.clock)
      = not-lt→le at.clock W.head.clock (finite_number at.clock fine) (finite_number W.head.clock s.clock_fine) (no c.not_behind) in
      record {
        options_same = s.options_same;
        listed = s.listed;
        inside = s.inside;
        few = s.few;
        count_same = s.count_same;
        keys_same = s.keys_same;
        rated = s.rated;
        clock_fine = fine;
        last_past = past_later W.head.clock at.clock later W.head.cycle.last s.last_past;
      }

  module _ (N : Worker) (at : At) (T : Told) (s : Sound o ns N) where
    did_sound : N.head.clock ≡ at.clock → Did N at T → Sound o ns T.left
    did_sound now (nothing x) = sound_kept N T.left x.keeps o ns s
    did_sound now (one_round M k e l) = sound_kept (with_worked M at (round_at M at)) T.left l o ns (sound_round o ns M at (sound_kept N M k o ns s) (k.clock_kept ∙ now))

    did_respects : Did N at T → Respects S index_of listed_of N (of_round T.round) T.left
    unfolding Respects
    did_respects (nothing x) =
        subst (λ (r : Option Round). Respects S index_of listed_of N (of_round r) T.left) (sym x.no_round) (index_kept N T.left x.keeps, listed_kept N T.left x.keeps)
    did_respects (one_round M k e l) = subst (λ (r : Option Round). Respects S index_of listed_of N (of_round r) T.left) (sym e) (go (round_at M at).boundary refl)
      where
        sm : Sound o ns M
        sm = sound_kept N M k o ns s

        X : Worker
        X = with_worked M at (round_at M at)

        last : listed_of T.left ≡ listed_of X
        last = listed_kept X T.left l

        index_left : index_of T.left ≡ index_of X
        index_left = index_kept X T.left l

        index_before : index_of M ≡ index_of N
        index_before = index_kept N M k

        unchanged : (round_at M at).ran_out ≡ [] → listed_of T.left ≡ listed_of N
        unchanged z = last ∙ same_listed o ns M at sm z ∙ listed_kept N M k

        slices_same : slices_of M.head.options.period M.head.options.cycle ≡ S
        slices_same = ap (λ (x : Options). slices_of x.period x.cycle) sm.options_same

        go : (b : Bool) → (round_at M at).boundary ≡ b
            → Respects S index_of listed_of N (cond b (took (not (is_empty (round_at M at).ran_out)) (is_tier2 (round_at M at).after.table.tags) (round_at M at).slice) quiet) T.left
        go false z =
            let n = not_boundary (less o ns M at sm) M.head.options (P o ns M at sm) at.clock z in
            (index_left ∙ n.1 ∙ index_before, unchanged n.0)
        go true z =
            let b = at_boundary (less o ns M at sm) M.head.options (P o ns M at sm) at.clock z in
            let tier2 : (round_at M at).tier2 ≡ listed_of T.left = tier2_is o ns M at sm ∙ sym last in (
              λ n. unchanged (none_in (round_at M at).ran_out n),
              b.0 ∙ rw (slices_same, tier2, index_before),
              index_left ∙ b.1 ∙ rw (slices_same, tier2, index_before),
              λ t. ap (count t) last ∙ tier2_once (by_keys X.board.keys) X.board.table (round-listed o ns M at sm) t,
            )

  module _ (W : Worker) (at : At) (a : Answer) (out : ℕ) (s : Sound o ns W) where
    -- a step keeps an engine sound
    pub sound_step : Sound o ns (step W at a out).left
    sound_step =
        step_cases W at a out (λ (T : Told). Sound o ns T.left) (λ n. s)
        (λ c. did_sound (clocked W at) at (stepped W at a) (sound_clocked W at a c s) refl (did_stepped at W a c.awaits c.holds))

    -- a step of a sound engine respects rule 6
    pub respects_step : Respects S index_of listed_of W (of_round (step W at a out).round) (step W at a out).left
    unfolding Respects
    respects_step =
        step_cases W at a out (λ (T : Told). Respects S index_of listed_of W (of_round T.round) T.left) (λ n. (refl, refl))
        (λ c. respects_from S W (clocked W at) refl refl (of_round (stepped W at a).round) (stepped W at a).left
        (did_respects (clocked W at) at (stepped W at a) (sound_clocked W at a c s) (did_stepped at W a c.awaits c.holds)))
