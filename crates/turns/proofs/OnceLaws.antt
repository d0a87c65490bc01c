-- Rule 9: a step works out one round at most, and needs no second: what a round comes to is always told.
use mathlib.Core.Path.{◌≡◌, refl, ap, sym, ◌∙◌}
use mathlib.Core.Bool.{Bool, true, false, ◌&&◌, cond, true≢false}
use mathlib.Core.List.{List}
use mathlib.Core.Logic.{◌⊎◌, inl, inr}
use Prim.Native.Nat.{ℕ}
use lib.Dec.{T}
use lib.Ieee.{Float, binary64, sub, le, eq}
use lib.Ieee.Fits.{and_l, and_r}
use lib.Ieee.Scale.{finite}
use lib.ListN.{length}
use mir.Facts.{or_yes}
use Rattle.std.specs.Prelude.{Option, Some, None}
use Rattle.ieee.specs.Round.{float}
use Rattle.ieee.proofs.Order.{yes}
use Rattle.table.specs.declared.tag.Tag.{Tag}
use Rattle.lent.specs.Lent.{tag_bytes}
use Rattle.heads.specs.Options.{cycle_ok}
use Rattle.rounds.specs.Round.{round as worked_round}
use Rattle.queue.specs.Queue.{popped}
use Rattle.heads.specs.Stats.{read_stats}
use Rattle.heads.specs.declared.progress.Phase.TheVariants.{Read, Version}
use Rattle.heads.specs.declared.progress.After.{After}
use Rattle.heads.specs.declared.progress.After.TheVariants.{Tail, End}
use Rattle.descriptions.specs.Descriptions.{describing}
use Rattle.replies.specs.declared.at.At.{At}
use Rattle.replies.specs.Worker.{Worker, at, Told, tell, asks, with_board, phased, tallied, goes_on}
use Rattle.replies.specs.Reply as reply
use Rattle.replies.specs.Losing.{is_empty}
use Rattle.cycles.specs.Polling.{elapsed, idle, tail, resume, writing_of, writing, checking, reading, round_at, with_worked, polled, poll, lastly, finished}
use Rattle.step_checks.specs.Awaited.{Answer, contents}
use Rattle.worker.specs.Steps.{clocked, stepped}
use Rattle.names.specs.Directory.{names_of}
use Rattle.heads.specs.declared.options.Options.{Options}
use Rattle.histories.specs.Events.{Each}
use Rattle.histories.specs.Histories.{at_each}
use Rattle.capi.specs.Calls.{answer_of}
use Rattle.checks.specs.Creation.{Setup, creation_check}
use Rattle.capi.specs.Creation.{fresh_worker}
use Rattle.turns.specs.Calls.{Call, tier, load, steps, write, stop, look, after}
use Rattle.turns.specs.Demand.{moment}
use Rattle.turns.specs.Once.{answered_to, OnceAt, Once}
use Rattle.turns.proofs.KeepLaws.{Keeps}
use Rattle.turns.proofs.StillLaws.{still_handled}
use Rattle.turns.proofs.StepLaws.{Accepted, accepted-step}
use Rattle.turns.proofs.SoundLaws.{Sound, sound_kept, sound_clocked}
use Rattle.turns.proofs.CallLaws.{cycle_good, each_call}
use Rattle.turns.proofs.TickLaws.{ms, Rated, self_zero, tick_low, tick_high, not_negative, waits, boundary_zero, Past}
use Rattle.queue.specs.declared.Write.{Write}

-- either of two
told_if : (b : Bool) (x y : Told) → goes_on x ≡ false → goes_on y ≡ false → goes_on (cond b x y) ≡ false
told_if true x y p q = p
told_if false x y p q = q

-- cycle 0, or 0.001 to 3,600 s
cycle_cases : (c : Float) → cycle_ok c ≡ true → T (eq c (float 0)) ⊎ (T (le ms c) × T (le c (float 3600)))
cycle_cases c h = elim (or_yes (eq c (float 0)) (le ms c && le c (float 3600)) (yes h)) [ inl z ↦ inl z | inr u ↦ inr (and_l (le ms c) (le c (float 3600)) u, and_r (le ms c) (le c (float 3600)) u) ]

module _ (at : At) (f : T (finite at.clock)) where
  -- a write is told; without one it goes on where it came from
  writing-told : (W : Worker) (a : After) → goes_on (resume W at a) ≡ false → goes_on (writing W at a) ≡ false
  unfolding writing_of
  writing-told W a h = go (popped W.board.queue)
    where
      go : (p : Option Write) → goes_on (writing_of W at a p) ≡ false
      go None = h
      go (Some w) = refl

  -- a round that has just begun, no boundary, with a tick of 0.001 s or more, is waited for
  tail-told : (W : Worker) → W.head.progress.start ≡ at.clock → T (le ms W.head.progress.tick) → T (le W.head.progress.tick (float 3600)) → goes_on (tail W at) ≡ false
  unfolding tail idle
  tail-told W s lo hi =
      let tick = W.head.progress.tick in
      let none : elapsed W at ≡ float 0 = ap (sub binary64 at.clock) s ∙ self_zero at.clock f in
      rw (none, not_negative tick lo hi, waits tick lo hi) refl

  -- What a round that has just been worked out goes by: its start is now, and where it is no boundary its tick is 0.001 s or more.
  record Begun (W : Worker) : Type 0 where
    start_now : W.head.progress.start ≡ at.clock
    tick_good : W.head.progress.boundary ≡ false → T (le ms W.head.progress.tick) × T (le W.head.progress.tick (float 3600))

  -- at a boundary the version is asked for; otherwise writes go out, and the tick is waited for
  checking-told : (W : Worker) → Begun W → goes_on (checking W at) ≡ false
  unfolding checking resume
  checking-told W b = go W.head.progress.boundary refl
    where
      go : (x : Bool) → W.head.progress.boundary ≡ x → goes_on (cond x (asks W Version reply.version) (writing W at Tail)) ≡ false
      go true e = refl
      go false e = writing-told W Tail (tail-told W b.start_now (b.tick_good e).0 (b.tick_good e).1)

  -- descriptions are asked for, or it goes on to the version
  reading-told : (W : Worker) → Begun W → goes_on (reading W at) ≡ false
  unfolding reading
  reading-told W b =
      let B = describing W.board in
      let next = tallied (with_board W B) (read_stats W.head.stats (length W.board.asked)) in
      told_if (is_empty B.asked) _ _ (checking-told next (record { start_now = b.start_now; tick_good = b.tick_good })) refl

  -- An engine with an accepted cycle and rates of 1 ms or more, whose last boundary is not ahead of the clock.
  module _ (W : Worker) (c : cycle_ok W.head.options.cycle ≡ true) (r : Rated W.board.table.tags)
      (last : Past at.clock W.head.cycle.last) where
    begun_worked : Begun (with_worked W at (round_at W at))
    unfolding worked_round
    begun_worked = record {
      start_now = refl;
      tick_good = go (cycle_cases W.head.options.cycle c);
    }
      where
        tags : List Tag
        tags = W.board.table.tags

        go : T (eq W.head.options.cycle (float 0)) ⊎ (T (le ms W.head.options.cycle) × T (le W.head.options.cycle (float 3600)))
            → (round_at W at).boundary ≡ false → T (le ms (round_at W at).tick) × T (le (round_at W at).tick (float 3600))
        go (inl z) e = absurd (true≢false (sym (boundary_zero W.head.options.cycle z tags r W.board.table.order W.head.cycle at.clock f last) ∙ e))
        go (inr u) e = (
          tick_low tags r W.head.options.cycle u.0 W.board.table.order W.head.options.cycle u.0,
          tick_high tags W.head.options.cycle W.board.table.order W.head.options.cycle (float 3600) u.1,
        )

    -- what is polled is told
    pub poll-told : goes_on (poll W at) ≡ false
    unfolding poll polled resume
    poll-told =
        told_if W.head.link.stopping _ _ (writing-told W End refl) (told-round (is_empty (with_worked W at (round_at W at)).board.asked))
      where
        told-round : (b : Bool) → goes_on (cond b (reading (with_worked W at (round_at W at)) at) (tell (phased (with_worked W at (round_at W at)) Read) (reply.read (length (with_worked W at (round_at W at)).board.asked)) (tag_bytes (with_worked W at (round_at W at)).board.asked))) ≡ false
        told-round true = reading-told (with_worked W at (round_at W at)) begun_worked
        told-round false = refl

    -- so nothing is left for a second round
    pub lastly-told : lastly (poll W at) at ≡ poll W at
    lastly-told = rw poll-told refl

-- ---- every call of a list

module _ (o : Options) (ns : List (List ℕ)) (c : cycle_ok o.cycle ≡ true) where
  -- an accepted step of a sound engine
  once_at : (W : Worker) (at : At) (a : Answer) → Sound o ns W → Accepted W at a → OnceAt W at a
  unfolding stepped finished
  once_at W at a s k =
      let N = clocked W at in
      let sn = sound_clocked o ns W at a k s in
      let M = (answered_to W at a).left in
      let kept : Keeps N M = (still_handled W.head.progress.phase N at a k.awaits (unfold contents in k.holds)).keeps in
      let sm = sound_kept N M kept o ns sn in
      rw (lastly-told at sn.clock_fine M (ap (λ (x : Options). cycle_ok x.cycle) sm.options_same ∙ c) sm.rated (rw kept.clock_kept at sm.last_past)) refl

  -- every call of a sound engine
  once_call : (x : Call) (W : Worker) → Sound o ns W → Once (moment x W)
  unfolding Once
  once_call (tier clock tag to) W s = tt
  once_call (load clock list) W s = tt
  once_call (steps clock wall kind number message list out) W s = λ e. once_at W (at clock wall) (answer_of kind number message list) s (accepted-step W (at clock wall) (answer_of kind number message list) (length out) e)
  once_call (write tag kind word) W s = tt
  once_call stop W s = tt
  once_call (look l) W s = tt

-- No step of an engine that creation accepted needs a second round, whatever the calls before it.
pub never_twice : (s : Setup) → creation_check s ≡ 0 → (cs : List Call) → Each (at_each after moment cs (fresh_worker s)) Once
never_twice s e cs = each_call s e Once (once_call s.options (names_of s.names s.ends) (cycle_good s e)) cs
