-- The results of a read-back are kept whole. An engine that waits for them has asked for two tags at most, and the bytes that keep them hold eight.
-- `apart-X` says of the definition X of `replies`, `cycles`, `step_answers` or `worker` that it leaves no engine that waits for a read-back, and as many bytes.
use mathlib.Core.Path.{◌≡◌, refl, ap, sym, ◌∙◌}
use mathlib.Core.Bool.{Bool, true, false, cond, true≢false}
use mathlib.Core.List.{List, [], ◌∷◌}
use Prim.Native.Nat.{ℕ, zero, suc, ◌+◌, ◌*◌, ◌-◌, ◌<◌, ◌≤◌}
use native.Mathlib.Omega.{arith}
use lib.Dec.{eqb, ltb}
use lib.Ieee.{binary64, round as rounded, le}
use lib.ListN.{length, get_or, take, length-take, length-replicate}
use borrow.Author.Tests.{lt-ltb}
use Rattle.std.specs.Prelude.{Option, Some, None}
use Rattle.memory.specs.Blocks.{byte_at}
use Rattle.memory.specs.Cells.{cells_in, word_at}
use Rattle.memory.proofs.CellLaws.{cells_at}
use Rattle.values.specs.declared.value.Value.TheVariants.{Null}
use Rattle.words.specs.Value.{value_from}
use Rattle.lent.specs.Lent.{over_bytes, tag_bytes}
use Rattle.lent.proofs.LentLaws.{over-length}
use Rattle.results.specs.Results.{result_count, result_in}
use Rattle.heads.specs.Version.{is_reloaded}
use Rattle.queue.specs.Queue.{popped}
use Rattle.writes.specs.ReadBack.{read_back_tags, read_back_first, kept_back}
use Rattle.heads.specs.Link.{is_state}
use Rattle.heads.specs.Progress.{phase_number}
use Rattle.heads.specs.Stats.{tail_stats, read_stats, reconnected}
use Rattle.heads.specs.declared.link.State.TheVariants.{Disconnected, Connecting, Connected}
use Rattle.heads.specs.declared.progress.After.{After}
use Rattle.heads.specs.declared.progress.After.TheVariants.{Tail, Idle, End}
use Rattle.heads.specs.declared.progress.Phase.{Phase}
use Rattle.heads.specs.declared.progress.Phase.TheVariants.{Begin, Connect, OpenVersion, Version, Read, Describe, Write, ReadBack, Wait, Backoff, OpenFailedTold, OpenMetaTold, ConnectedTold, MetaTold, ValuesTold, InfoTold, RefusedTold, LostTold, OutcomeTold, BackTold, FailedTold, StaleTold, DisconnectedTold, ConnectingTold, Stopped}
use Rattle.readings.specs.Changes.{applied_to}
use Rattle.stale.specs.Stale.{staled_in}
use Rattle.descriptions.specs.Descriptions.{describing}
use Rattle.fresh.specs.Fresh.{fresh_board}
use Rattle.replies.specs.Reply as reply
use Rattle.replies.specs.declared.at.At.{At}
use Rattle.replies.specs.Worker.{Worker, at, Told, tell, asks, with_board, phased, tallied, goes_on}
use Rattle.replies.specs.Losing.{is_empty, ended, backing_off, disconnected, staling, down, top}
use Rattle.cycles.specs.Polling.{elapsed, remaining, polls, idle, tail, resume, writing_of, writing, checking, reading, round_at, with_worked, polled, poll, lastly, finished}
use Rattle.step_checks.specs.declared.answer.Kind.{Kind}
use Rattle.step_checks.specs.declared.answer.Kind.TheVariants as kind
use Rattle.step_checks.specs.Kinds.{is_opened, is_lost}
use Rattle.step_checks.specs.Awaited.{Answer}
use Rattle.step_answers.specs.Answers.{number_of, versioned, connected, reconnecting, opened, open_version, round_version, results, descriptions, written_as, written, read_back, back_applied, waited, backed_off}
use Rattle.worker.specs.Steps.{taken, handled, clocked, stepped, step}
use Rattle.checks.specs.Calls.{tier_check, load_check, write_check}
use Rattle.capi.specs.Calls.{tiered, loaded, wrote, answer_of}
use Rattle.checks.specs.Creation.{Setup}
use Rattle.capi.specs.Creation.{fresh_worker}
use Rattle.histories.specs.Events.{Each}
use Rattle.histories.specs.Histories.{at_each}
use Rattle.turns.specs.Calls.{Call, tier, load, steps, write, stop, look, after}
use Rattle.turns.specs.Demand.{moment}
use Rattle.turns.proofs.StepLaws.{step_cases}
use Rattle.uncut.specs.Backs.{BackWhole, BacksWhole}
use Rattle.queue.specs.declared.Write.{Write as Queued}

abbrev is_read_back : Phase → Bool
is_read_back ReadBack = true
is_read_back p = false

-- whether an engine waits for a read-back
abbrev waits_back : Worker → Bool
waits_back W = is_read_back W.head.progress.phase

-- either of two
either : {A : Type 0} (P : A → Type 0) (b : Bool) (x y : A) → P x → P y → P (cond b x y)
either P true x y p q = p
either P false x y p q = q

-- ---- what is told

record Apart (W : Worker) (T : Told) : Type 0 where
  away : waits_back W ≡ false → waits_back T.left ≡ false
  long : length T.left.board.back ≡ length W.board.back

-- told from an engine M that waits for the same and has the same bytes
apart_after : (W M : Worker) (T : Told) → waits_back M ≡ waits_back W → length M.board.back ≡ length W.board.back → Apart M T → Apart W T
apart_after W M T e h a = record { away = λ w. a.away (e ∙ w); long = a.long ∙ h }

-- ---- the end, and a connection that is lost

module _ (W : Worker) where
  apart_ended : Apart W (ended W)
  apart_ended = record { away = λ w. refl; long = refl }

  apart_backing_off : Apart W (backing_off W)
  apart_backing_off = record { away = λ w. refl; long = refl }

  apart_disconnected : Apart W (disconnected W)
  unfolding disconnected
  apart_disconnected = either (Apart W) (is_state W.head.link Disconnected) _ _ apart_backing_off (record { away = λ w. refl; long = refl })

  apart_top : Apart W (top W)
  unfolding top
  apart_top = either (Apart W) W.head.link.stopping _ _ apart_ended (record { away = λ w. refl; long = refl })

apart_staling : (W : Worker) → Apart W (staling W)
unfolding staling staled_in
apart_staling W =
    let next = with_board W (staled_in W.board).board in
    either (Apart W) (is_empty (staled_in W.board).changes) _ _ (apart_after W next (disconnected next) refl refl (apart_disconnected next)) (record { away = λ w. refl; long = refl })

apart_down : (W : Worker) → Apart W (down W)
unfolding down
apart_down W = either (Apart W) W.head.link.stopping _ _ (apart_ended W) (either (Apart W) (is_empty W.board.queue) _ _ (apart_staling W) (record { away = λ w. refl; long = refl }))

-- ---- rounds

module _ (at : At) where
  apart_polls : (W : Worker) → Apart W (polls W)
  apart_polls W = record { away = λ w. w; long = refl }

  apart_idle : (W : Worker) → Apart W (idle W at)
  unfolding idle
  apart_idle W = either (Apart W) (le (remaining W at) (rounded binary64 false 1 10000)) _ _ (apart_polls W) (record { away = λ w. refl; long = refl })

  apart_tail : (W : Worker) → Apart W (tail W at)
  unfolding tail
  apart_tail W =
      let next = tallied W (tail_stats W.head.stats (elapsed W at) W.head.progress.tick at.wall) in
      either (Apart W) (le (elapsed W at) W.head.progress.tick) _ _ (apart_after W next (idle next at) refl refl (apart_idle next)) (apart_after W next (polls next) refl refl (apart_polls next))

  apart_resume : (W : Worker) (a : After) → Apart W (resume W at a)
  unfolding resume
  apart_resume W Tail = apart_tail W
  apart_resume W Idle = apart_idle W
  apart_resume W End = apart_ended W

  apart_writing_of : (W : Worker) (a : After) (p : Option Queued) → Apart W (writing_of W at a p)
  unfolding writing_of
  apart_writing_of W a None = apart_resume W a
  apart_writing_of W a (Some w) = record { away = λ w. refl; long = refl }

  apart_writing : (W : Worker) (a : After) → Apart W (writing W at a)
  apart_writing W a = apart_writing_of W a (popped W.board.queue)

  apart_checking : (W : Worker) → Apart W (checking W at)
  unfolding checking
  apart_checking W = either (Apart W) W.head.progress.boundary _ _ (record { away = λ w. refl; long = refl }) (apart_writing W Tail)

  apart_reading : (W : Worker) → Apart W (reading W at)
  unfolding reading
  apart_reading W =
      let next = tallied (with_board W (describing W.board)) (read_stats W.head.stats (length W.board.asked)) in
      either (Apart W) (is_empty (describing W.board).asked) _ _ (apart_after W next (checking next at) refl refl (apart_checking next)) (record { away = λ w. refl; long = refl })

  apart_poll : (W : Worker) → Apart W (poll W at)
  unfolding poll polled
  apart_poll W =
      let R = round_at W at in
      let next = with_worked W at R in
      let asked = next.board.asked in
      let rest : Apart next (cond (is_empty asked) (reading next at) (tell (phased next Read) (reply.read (length asked)) (tag_bytes asked))) =
      either (Apart next) (is_empty asked) _ _ (apart_reading next) (record { away = λ w. refl; long = refl }) in
      either (Apart W) W.head.link.stopping _ _ (apart_writing W End) (record { away = λ w. rest.away w; long = rest.long })

  -- the wait after it, where there is one
  apart_lastly : (W : Worker) (T : Told) → Apart W T → Apart W (lastly T at)
  apart_lastly W T a = either (Apart W) (goes_on T) _ T (record { away = λ w. refl; long = a.long }) a

-- ---- answers

apart_connected : (W : Worker) → Apart W (connected W)
unfolding connected
apart_connected W = either (Apart W) (is_state W.head.link Connected) _ _ (record { away = λ w. w; long = refl }) (record { away = λ w. refl; long = refl })

apart_reconnecting : (W : Worker) → Apart W (reconnecting W)
unfolding reconnecting
apart_reconnecting W =
    let next = tallied W (reconnected W.head.stats) in
    either (Apart W) (is_state W.head.link Connecting) _ _ (apart_after W next (top next) refl refl (apart_top next)) (record { away = λ w. refl; long = refl })

apart_opened : (W : Worker) → Apart W (opened W)
unfolding opened
apart_opened W = either (Apart W) (is_empty W.board.queue) _ _ (record { away = λ w. refl; long = refl }) (record { away = λ w. refl; long = refl })

apart_open_version : (W : Worker) (a : Answer) → Apart W (open_version W a)
unfolding open_version
apart_open_version W a =
    let next = versioned W true a in
    either (Apart W) (is_reloaded W.head.link.version (number_of a.kind)) _ _ (record { away = λ w. refl; long = refl }) (apart_after W next (connected next) refl refl (apart_connected next))

apart_round-version : (W : Worker) (at : At) (a : Answer) → Apart W (round_version W at a)
unfolding round_version
apart_round-version W at a =
    let next = versioned W false a in
    either (Apart W) (is_reloaded W.head.link.version (number_of a.kind)) _ _ (record { away = λ w. refl; long = refl }) (apart_after W next (writing next at Tail) refl refl (apart_writing at next Tail))

apart_results : (W : Worker) (at : At) (a : Answer) → Apart W (results W at a)
unfolding results applied_to
apart_results W at a =
    let C = applied_to W.board a.list W.head.progress.start at.wall true in
    let next = with_board W C.board in
    either (Apart W) (is_lost a.kind) _ _ (apart_down W)
    (either (Apart W) (is_empty C.changes) _ _ (apart_after W next (reading next at) refl refl (apart_reading at next)) (record { away = λ w. refl; long = refl }))

apart_descriptions : (W : Worker) (a : Answer) → Apart W (descriptions W a)
unfolding descriptions
apart_descriptions W a = record { away = λ w. refl; long = refl }

apart_back_applied : (W : Worker) (at : At) → Apart W (back_applied W at)
unfolding back_applied applied_to
apart_back_applied W at =
    let C = applied_to W.board W.board.back at.clock at.wall false in
    let next = with_board W C.board in
    either (Apart W) (is_empty C.changes) _ _ (apart_after W next (writing next at W.head.progress.after) refl refl (apart_writing at next W.head.progress.after)) (record { away = λ w. refl; long = refl })

apart_waited : (W : Worker) (at : At) → Apart W (waited W at)
unfolding waited
apart_waited W at = apart_writing at W _

apart_backed_off : (W : Worker) → Apart W (backed_off W)
unfolding backed_off
apart_backed_off W = either (Apart W) W.head.link.stopping _ _ (apart_ended W) (apart_reconnecting W)

apart_taken : (p : Phase) (W : Worker) (at : At) → Apart W (taken p W at)
unfolding taken
apart_taken Begin W at = apart_top W
apart_taken Connect W at = apart_top W
apart_taken OpenVersion W at = apart_top W
apart_taken Version W at = apart_top W
apart_taken Read W at = apart_top W
apart_taken Describe W at = apart_top W
apart_taken Write W at = apart_top W
apart_taken ReadBack W at = apart_top W
apart_taken Wait W at = apart_top W
apart_taken Backoff W at = apart_top W
apart_taken OpenFailedTold W at = record { away = λ w. refl; long = refl }
apart_taken OpenMetaTold W at = apart_connected W
apart_taken ConnectedTold W at = apart_polls at W
apart_taken MetaTold W at = apart_writing at W Tail
apart_taken ValuesTold W at = apart_reading at W
apart_taken InfoTold W at = apart_checking at W
apart_taken RefusedTold W at = apart_writing at W W.head.progress.after
apart_taken LostTold W at = apart_down W
apart_taken OutcomeTold W at = apart_back_applied W at
apart_taken BackTold W at = apart_writing at W W.head.progress.after
apart_taken FailedTold W at = apart_staling W
apart_taken StaleTold W at = apart_disconnected W
apart_taken DisconnectedTold W at = apart_backing_off W
apart_taken ConnectingTold W at = apart_top W
apart_taken Stopped W at = apart_top W

-- ---- engines that wait for a read-back

-- The bytes are as many as creation made, and a read-back waited for is of two tags at most.
record Held (W : Worker) : Type 0 where
  long : length W.board.back ≡ 256
  few : waits_back W ≡ true → length W.board.asked ≤ 2

-- what is told leaves such an engine, and goes on with one that waits for none
record HeldTold (T : Told) : Type 0 where
  held : Held T.left
  on : goes_on T ≡ true → waits_back T.left ≡ false

-- an engine that waits for none
away_held : (W : Worker) → length W.board.back ≡ 256 → waits_back W ≡ false → Held W
away_held W h e = record { long = h; few = λ t. absurd (true≢false (sym t ∙ e)) }

apart_held : (W : Worker) (T : Told) → Held W → waits_back W ≡ false → Apart W T → HeldTold T
apart_held W T v e a = record { held = away_held T.left (a.long ∙ v.long) (a.away e); on = λ g. a.away e }

two : (words : List ℕ) (k n : ℕ) → length (take n (read_back_tags words k)) ≤ 2
two words k n = omega (arith, length-take n (read_back_tags words k), go (ltb 1 (get_or words k 0)))
  where
    go : (b : Bool) → length (k ∷ cond b ((get_or words k 0 - 2) ∷ []) []) ≤ 2
    go true = omega arith
    go false = omega arith

held_written_as : (W : Worker) (k : Kind) → Held W → HeldTold (written_as W k)
held_written_as W kind.Written v = record { held = record { long = v.long; few = λ t. two W.board.table.words W.head.progress.tag W.board.table.room }; on = λ g. absurd (true≢false (sym g)) }
held_written_as W (kind.Refused error message) v = record { held = away_held _ v.long refl; on = λ g. refl }
held_written_as W k v = record { held = away_held _ v.long refl; on = λ g. refl }

held_written : (W : Worker) (a : Answer) → Held W → HeldTold (written W a)
unfolding written
held_written W a v = held_written_as W a.kind v

held_read-back : (W : Worker) (a : Answer) → Held W → HeldTold (read_back W a)
unfolding read_back
held_read-back W a v =
    either HeldTold (is_lost a.kind) _ _ (record { held = away_held _ v.long refl; on = λ g. refl })
    (record { held = away_held _ (over-length W.board.back a.list ∙ v.long) refl; on = λ g. refl })

-- an answer to an engine in the phase p
held_handled : (p : Phase) (W : Worker) (at : At) (a : Answer) → W.head.progress.phase ≡ p → Held W → HeldTold (handled p W at a)
unfolding handled
held_handled p W at a e v = go p e
  where
    quiet : (q : Phase) → W.head.progress.phase ≡ q → is_read_back q ≡ false → waits_back W ≡ false
    quiet q e h = ap is_read_back e ∙ h

    by : (q : Phase) (T : Told) → W.head.progress.phase ≡ q → is_read_back q ≡ false → Apart W T → HeldTold T
    by q T e h s = apart_held W T v (quiet q e h) s

    go : (q : Phase) → W.head.progress.phase ≡ q → HeldTold (handled q W at a)
    go Begin e = by Begin _ e refl (apart_top W)
    go Connect e = by Connect _ e refl (either (Apart W) (is_opened a.kind) _ _ (apart_opened W) (apart_down W))
    go OpenVersion e = by OpenVersion _ e refl (apart_open_version W a)
    go Version e = by Version _ e refl (apart_round-version W at a)
    go Read e = by Read _ e refl (apart_results W at a)
    go Describe e = by Describe _ e refl (apart_descriptions W a)
    go Write e = held_written W a v
    go ReadBack e = held_read-back W a v
    go Wait e = by Wait _ e refl (apart_waited W at)
    go Backoff e = by Backoff _ e refl (apart_backed_off W)
    go OpenFailedTold e = by OpenFailedTold _ e refl (apart_taken OpenFailedTold W at)
    go OpenMetaTold e = by OpenMetaTold _ e refl (apart_taken OpenMetaTold W at)
    go ConnectedTold e = by ConnectedTold _ e refl (apart_taken ConnectedTold W at)
    go MetaTold e = by MetaTold _ e refl (apart_taken MetaTold W at)
    go ValuesTold e = by ValuesTold _ e refl (apart_taken ValuesTold W at)
    go InfoTold e = by InfoTold _ e refl (apart_taken InfoTold W at)
    go RefusedTold e = by RefusedTold _ e refl (apart_taken RefusedTold W at)
    go LostTold e = by LostTold _ e refl (apart_taken LostTold W at)
    go OutcomeTold e = by OutcomeTold _ e refl (apart_taken OutcomeTold W at)
    go BackTold e = by BackTold _ e refl (apart_taken BackTold W at)
    go FailedTold e = by FailedTold _ e refl (apart_taken FailedTold W at)
    go StaleTold e = by StaleTold _ e refl (apart_taken StaleTold W at)
    go DisconnectedTold e = by DisconnectedTold _ e refl (apart_taken DisconnectedTold W at)
    go ConnectingTold e = by ConnectingTold _ e refl (apart_taken ConnectingTold W at)
    go Stopped e = by Stopped _ e refl (apart_taken Stopped W at)

-- what follows it in the same step
held_finished : (at : At) (T : Told) → HeldTold T → Held (finished T at).left
unfolding finished
held_finished at T t = go (goes_on T) refl
  where
    go : (b : Bool) → goes_on T ≡ b → Held (cond b (lastly (poll T.left at) at) T).left
    go true g = (apart_held T.left _ t.held (t.on g) (apart_lastly at T.left (poll T.left at) (apart_poll at T.left))).held
    go false g = t.held

held_stepped : (W : Worker) (at : At) (a : Answer) → Held W → Held (stepped W at a).left
unfolding stepped
held_stepped W at a v =
    held_finished at _ (held_handled W.head.progress.phase (clocked W at) at a refl (record { long = v.long; few = v.few }))

held_step : (W : Worker) (at : At) (a : Answer) (out : ℕ) → Held W → Held (step W at a out).left
held_step W at a out v = step_cases W at a out (λ (T : Told). Held T.left) (λ n. v) (λ k. held_stepped W at a v)

-- ---- the results that are kept

over-at : (out bytes : List ℕ) (i : ℕ) → i < length out → i < length bytes → byte_at (over_bytes out bytes) i ≡ byte_at bytes i
unfolding over_bytes
over-at [] bytes i g h = absurd (omega arith)
over-at (o ∷ out) [] i g h = absurd (omega arith)
over-at (o ∷ out) (b ∷ bytes) zero g h = refl
over-at (o ∷ out) (b ∷ bytes) (suc i) g h = over-at out bytes i (omega arith) (omega arith)

over_word : (out bytes : List ℕ) (i : ℕ) → i + 8 ≤ length out → i + 8 ≤ length bytes → word_at (over_bytes out bytes) i ≡ word_at bytes i
over_word out bytes i g h =
    let each : (j : ℕ) → j < 8 → byte_at (over_bytes out bytes) (i + j) ≡ byte_at bytes (i + j) = λ j l. over-at out bytes (i + j) (omega arith) (omega arith) in
    rw (over-at out bytes i (omega arith) (omega arith), each 1 (omega arith), each 2 (omega arith), each 3 (omega arith), each 4 (omega arith), each 5 (omega arith), each 6 (omega arith), each 7 (omega arith)) refl

over_cell : (out bytes : List ℕ) (i : ℕ) → 8 * i + 8 ≤ length out → 8 * i + 8 ≤ length bytes → get_or (cells_in (over_bytes out bytes)) i 0 ≡ get_or (cells_in bytes) i 0
over_cell out bytes i g h =
    cells_at (over_bytes out bytes) i (omega (arith, over-length out bytes)) ∙ over_word out bytes (8 * i) g h ∙ sym (cells_at bytes i (omega arith))

-- A result that lies within both is the one that was written.
over_result : (out bytes : List ℕ) (i : ℕ) → 32 * i + 32 ≤ length out → 32 * i + 32 ≤ length bytes → result_in (over_bytes out bytes) i ≡ result_in bytes i
unfolding result_in
over_result out bytes i g h =
    let cell : (j : ℕ) → j < 4 → get_or (cells_in (over_bytes out bytes)) (4 * i + j) 0 ≡ get_or (cells_in bytes) (4 * i + j) 0 = λ j l. over_cell out bytes (4 * i + j) (omega arith) (omega arith) in
    rw (
      lt-ltb i (result_count (over_bytes out bytes)) (omega (arith, over-length out bytes)),
      lt-ltb i (result_count bytes) (omega arith),
      over_cell out bytes (4 * i) (omega arith) (omega arith),
      cell 1 (omega arith),
      cell 2 (omega arith),
      cell 3 (omega arith),
    ) refl

-- ---- every list of calls

module _ (W : Worker) (v : Held W) (e : W.head.progress.phase ≡ ReadBack) (at : At) (a : Answer) where
  abbrev Kept : Told → Type 0
  Kept T = T.left.head.progress.phase ≡ OutcomeTold → (i : ℕ) → i < length T.left.board.asked → result_in T.left.board.back i ≡ result_in a.list i

  kept : (i : ℕ) → i < length (take (result_count a.list) W.board.asked) → result_in (over_bytes W.board.back a.list) i ≡ result_in a.list i
  kept i l =
      let few : length W.board.asked ≤ 2 = v.few (ap is_read_back e) in
      let long = length-take (result_count a.list) W.board.asked in
      over_result W.board.back a.list i (omega (arith, few, long, v.long)) (omega (arith, long))

  -- what a lost read-back is told as, and one that came
  abbrev lost : Told
  lost = asks (clocked W at) LostTold (reply.went_through W.head.progress.tag Null)

  abbrev came : Told
  came = asks (with_board (clocked W at) (kept_back W.board a.list)) OutcomeTold (reply.went_through W.head.progress.tag (read_back_first a.list))

  kept-stepped : Kept (stepped W at a)
  unfolding stepped handled read_back finished
  kept-stepped = rw e (go (is_lost a.kind))
    where
      go : (b : Bool) → Kept (finished (cond b lost came) at)
      go true f = absurd (omega (arith, ap phase_number f))
      go false f = kept

  kept_step : (out : ℕ) → Kept (step W at a out)
  kept_step out = step_cases W at a out Kept (λ n f. absurd (omega (arith, ap phase_number (sym e ∙ f)))) (λ k. kept-stepped)

held_after : (c : Call) (W : Worker) → Held W → Held (after c W)
unfolding after
held_after (tier clock tag to) W v = either Held (eqb (tier_check W clock tag to) 0) (tiered W clock tag to) W (record { long = v.long; few = v.few }) v
held_after (load clock list) W v = either Held (eqb (load_check W clock list) 0) (loaded W clock list) W (record { long = v.long; few = v.few }) v
held_after (steps clock wall kind number message list out) W v = held_step W (at clock wall) (answer_of kind number message list) (length out) v
held_after (write tag kind word) W v = either Held (eqb (write_check W tag (value_from kind word)) 0) (wrote W tag (value_from kind word)) W (record { long = v.long; few = v.few }) v
held_after stop W v = record { long = v.long; few = v.few }
held_after (look l) W v = v

back_whole : (c : Call) (W : Worker) → Held W → BackWhole (moment c W)
unfolding BackWhole
back_whole (tier clock tag to) W v = tt
back_whole (load clock list) W v = tt
back_whole (steps clock wall kind number message list out) W v = λ e. kept_step W v e (at clock wall) (answer_of kind number message list) (length out)
back_whole (write tag kind word) W v = tt
back_whole stop W v = tt
back_whole (look l) W v = tt

held_fresh : (s : Setup) → Held (fresh_worker s)
unfolding fresh_board
held_fresh s = record { long = length-replicate {A = ℕ} 256 0; few = λ t. absurd (true≢false (sym t)) }

-- The results of every read-back are kept whole.
pub backs_whole : BacksWhole
unfolding BacksWhole Each at_each
backs_whole s e cs = go cs (fresh_worker s) (held_fresh s)
  where
    go : (cs : List Call) (W : Worker) → Held W → Each (at_each after moment cs W) BackWhole
    go [] W v = tt
    go (c ∷ cs) W v = (back_whole c W v, go cs (after c W) (held_after c W v))
