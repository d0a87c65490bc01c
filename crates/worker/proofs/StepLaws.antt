-- Laws of a step: it is refused with the number of its check, or accepted, and then what it tells is no refusal.
use mathlib.Core.Bool.{Bool, true, false, true≢false, cond}
use mathlib.Core.List.{[]}
use mathlib.Core.Path.{◌≡◌, refl, ap, sym, ◌∙◌}
use Prim.Native.Nat.{ℕ}
use lib.Dec.{eqb}
use lib.Ieee.{binary64, le, round as rounded}
use lib.ListN.{length}
use Rattle.std.specs.Prelude.{Option, Some, None}
use Rattle.refusals.specs.Refusals.{number}
use Rattle.refusals.specs.declared.Refusal.{Refusal}
use Rattle.refusals.proofs.Laws.{not_zero}
use Rattle.values.specs.declared.value.Value.TheVariants.{Null}
use Rattle.rounds.specs.Round.{Round}
use Rattle.heads.specs.Version.{is_reloaded}
use Rattle.queue.specs.Queue.{popped}
use Rattle.writes.specs.ReadBack.{read_back_first, kept_back}
use Rattle.queue.specs.declared.Write.{Write}
use Rattle.heads.specs.Link.{is_state, with_attempt}
use Rattle.heads.specs.Stats.{read_stats, tail_stats, reconnected, reloaded}
use Rattle.heads.specs.declared.link.State.TheVariants.{Connecting, Connected, Disconnected}
use Rattle.heads.specs.declared.progress.After.{After}
use Rattle.heads.specs.declared.progress.After.TheVariants.{Tail, Idle, End}
use Rattle.heads.specs.declared.progress.Phase.{Phase}
use Rattle.heads.specs.declared.progress.Phase.TheVariants.{Begin, Connect, OpenVersion, Version, Read, Describe, Write as AskWrite, ReadBack, Wait, Backoff, OpenFailedTold, OpenMetaTold, ConnectedTold, MetaTold, ValuesTold, InfoTold, RefusedTold, LostTold, OutcomeTold, BackTold, FailedTold, StaleTold, DisconnectedTold, ConnectingTold, Stopped}
use Rattle.lent.specs.Lent.{cell_bytes, tag_bytes}
use Rattle.readings.specs.Changes.{applied_to, changes_in}
use Rattle.stale.specs.Stale.{staled_in}
use Rattle.descriptions.specs.Descriptions.{describing}
use Rattle.replies.specs.Reply as reply
use Rattle.replies.specs.declared.at.At.{At}
use Rattle.replies.specs.Worker.{Worker, Told, tell, asks, with_board, phased, linked, stated, tallied, goes_on}
use Rattle.replies.specs.Losing.{is_empty, failing, ended, backing_off, disconnected, staling, down, top}
use Rattle.cycles.specs.Polling.{elapsed, remaining, polls, waiting, idle, tail, resume, writing_of, writing, checking, reading, round_at, with_worked, worked, polled, poll, lastly, finished}
use Rattle.step_checks.specs.declared.answer.Kind.{Kind}
use Rattle.step_checks.specs.declared.answer.Kind.TheVariants.{Written, Refused}
use Rattle.step_checks.specs.Kinds.{is_opened, is_lost}
use Rattle.step_checks.specs.Awaited.{Answer, step_check}
use Rattle.step_answers.specs.Answers.{connected, reconnecting, opened, number_of, versioned, open_version, round_version, results, descriptions, written_as, written, read_back, back_applied, waited, backed_off, connect_answered}
use Rattle.worker.specs.Steps.{taken, handled, clocked, stepped, step}

-- what is told is no refusal
pub record Plain (T : Told) : Type 0 where
  pub accepted : T.reply.code ≡ 0

told : (T : Told) → T.reply.code ≡ 0 → Plain T
told T e = record { accepted = e }

both : (b : Bool) (T U : Told) → Plain T → Plain U → Plain (cond b T U)
both true T U t u = t
both false T U t u = u

worked_plain : (T : Told) (R : Round) → Plain T → Plain (worked T R)
worked_plain T R h = told _ h.accepted

lastly_plain : (T : Told) (at : At) → Plain T → Plain (lastly T at)
lastly_plain T at h = both (goes_on T) (record { left = (waiting T.left at).left; reply = (waiting T.left at).reply; bytes = []; round = T.round }) (T) (told _ refl) h

pub disconnected_plain : (W : Worker) → Plain (disconnected W)
unfolding disconnected
disconnected_plain W = both (is_state W.head.link Disconnected) (backing_off W) (asks (stated W Disconnected) DisconnectedTold (reply.status Disconnected)) (told _ refl) (told _ refl)

pub staling_plain : (W : Worker) → Plain (staling W)
unfolding staling
staling_plain W =
    let C = staled_in W.board in
    let next = with_board W C.board in
    both (is_empty C.changes) (disconnected next) (tell (phased next StaleTold) (reply.values (length C.changes)) (cell_bytes (changes_in C.board C.changes))) (disconnected_plain next) (told _ refl)

pub down_plain : (W : Worker) → Plain (down W)
unfolding down
down_plain W =
    both W.head.link.stopping (ended W) (cond (is_empty W.board.queue) (staling W) (failing W FailedTold)) (told _ refl)
    (both (is_empty W.board.queue) (staling W) (failing W FailedTold) (staling_plain W) (told _ refl))

pub top_plain : (W : Worker) → Plain (top W)
unfolding top
top_plain W = both W.head.link.stopping (ended W) (asks W Connect reply.connect) (told _ refl) (told _ refl)

pub idle_plain : (W : Worker) (at : At) → Plain (idle W at)
unfolding idle
idle_plain W at = both (le (remaining W at) (rounded binary64 false 1 10000)) (polls W) (waiting W at) (told _ refl) (told _ refl)

pub tail_plain : (W : Worker) (at : At) → Plain (tail W at)
unfolding tail
tail_plain W at =
    let next = tallied W (tail_stats W.head.stats (elapsed W at) W.head.progress.tick at.wall) in
    both (le (elapsed W at) W.head.progress.tick) (idle next at) (polls next) (idle_plain next at) (told _ refl)

pub resume_plain : (W : Worker) (at : At) (after : After) → Plain (resume W at after)
unfolding resume
resume_plain W at Tail = tail_plain W at
resume_plain W at Idle = idle_plain W at
resume_plain W at End = told _ refl

of_plain : (W : Worker) (at : At) (after : After) (w : Option Write) → Plain (writing_of W at after w)
unfolding writing_of
of_plain W at after None = resume_plain W at after
of_plain W at after (Some w) = told _ refl

pub writing_plain : (W : Worker) (at : At) (after : After) → Plain (writing W at after)
writing_plain W at after = of_plain W at after (popped W.board.queue)

pub checking_plain : (W : Worker) (at : At) → Plain (checking W at)
unfolding checking
checking_plain W at = both W.head.progress.boundary (asks W Version reply.version) (writing W at Tail) (told _ refl) (writing_plain W at Tail)

pub reading_plain : (W : Worker) (at : At) → Plain (reading W at)
unfolding reading
reading_plain W at =
    let B = describing W.board in
    let next = tallied (with_board W B) (read_stats W.head.stats (length W.board.asked)) in
    both (is_empty B.asked) (checking next at) (tell (phased next Describe) (reply.describe (length B.asked)) (tag_bytes B.asked)) (checking_plain next at) (told _ refl)

polled_plain : (W : Worker) (at : At) (R : Round) → Plain (polled W at R)
unfolding polled
polled_plain W at R =
    let next = with_worked W at R in
    let list = next.board.asked in
    let asked = tell (phased next Read) (reply.read (length list)) (tag_bytes list) in
    worked_plain (cond (is_empty list) (reading next at) asked) R (both (is_empty list) (reading next at) asked (reading_plain next at) (told _ refl))

poll_plain : (W : Worker) (at : At) → Plain (poll W at)
unfolding poll
poll_plain W at = both W.head.link.stopping (writing W at End) (polled W at (round_at W at)) (writing_plain W at End) (polled_plain W at (round_at W at))

pub finished_plain : (T : Told) (at : At) → Plain T → Plain (finished T at)
unfolding finished
finished_plain T at h = both (goes_on T) (lastly (poll T.left at) at) (T) (lastly_plain (poll T.left at) at (poll_plain T.left at)) h

pub connected_plain : (W : Worker) → Plain (connected W)
unfolding connected
connected_plain W =
    let next = linked W (with_attempt W.head.link 0) in
    both (is_state W.head.link Connected) (polls next) (asks (stated next Connected) ConnectedTold (reply.status Connected)) (told _ refl) (told _ refl)

reconnecting_plain : (W : Worker) → Plain (reconnecting W)
unfolding reconnecting
reconnecting_plain W =
    let next = tallied W (reconnected W.head.stats) in
    both (is_state W.head.link Connecting) (top next) (asks (stated next Connecting) ConnectingTold (reply.status Connecting)) (top_plain next) (told _ refl)

opened_plain : (W : Worker) → Plain (opened W)
unfolding opened
opened_plain W = both (is_empty W.board.queue) (asks W OpenVersion reply.version) (failing W OpenFailedTold) (told _ refl) (told _ refl)

open_plain : (W : Worker) (a : Answer) → Plain (open_version W a)
unfolding open_version
open_plain W a =
    let next = versioned W true a in
    both (is_reloaded W.head.link.version (number_of a.kind)) (asks (tallied next (reloaded W.head.stats)) OpenMetaTold reply.meta) (connected next) (told _ refl) (connected_plain next)

round_plain : (W : Worker) (at : At) (a : Answer) → Plain (round_version W at a)
unfolding round_version
round_plain W at a =
    let next = versioned W false a in
    both (is_reloaded W.head.link.version (number_of a.kind)) (asks (tallied next (reloaded W.head.stats)) MetaTold reply.meta) (writing next at Tail) (told _ refl) (writing_plain next at Tail)

results_plain : (W : Worker) (at : At) (a : Answer) → Plain (results W at a)
unfolding results
results_plain W at a =
    let C = applied_to W.board a.list W.head.progress.start at.wall true in
    let next = with_board W C.board in
    let sent = tell (phased next ValuesTold) (reply.values (length C.changes)) (cell_bytes (changes_in C.board C.changes)) in
    both (is_lost a.kind) (down W) (cond (is_empty C.changes) (reading next at) sent) (down_plain W)
    (both (is_empty C.changes) (reading next at) sent (reading_plain next at) (told _ refl))

descriptions_plain : (W : Worker) (a : Answer) → Plain (descriptions W a)
unfolding descriptions
descriptions_plain W a = told _ refl

written_as_plain : (W : Worker) (k : Kind) → Plain (written_as W k)
written_as_plain W Written = told _ refl
written_as_plain W (Refused error message) = told _ refl
written_as_plain W k = told _ refl

written_plain : (W : Worker) (a : Answer) → Plain (written W a)
unfolding written
written_plain W a = written_as_plain W a.kind

back_plain : (W : Worker) (a : Answer) → Plain (read_back W a)
unfolding read_back
back_plain W a =
    let k = W.head.progress.tag in
    both (is_lost a.kind) (asks W LostTold (reply.went_through k Null)) (asks (with_board W (kept_back W.board a.list)) OutcomeTold (reply.went_through k (read_back_first a.list))) (told _ refl) (told _ refl)

applied_plain : (W : Worker) (at : At) → Plain (back_applied W at)
unfolding back_applied
applied_plain W at =
    let C = applied_to W.board W.board.back at.clock at.wall false in
    let next = with_board W C.board in
    both (is_empty C.changes) (writing next at W.head.progress.after) (tell (phased next BackTold) (reply.values (length C.changes)) (cell_bytes (changes_in C.board C.changes))) (writing_plain next at W.head.progress.after) (told _ refl)

waited_plain : (W : Worker) (at : At) → Plain (waited W at)
unfolding waited
waited_plain W at = writing_plain W at (cond W.head.link.stopping End Idle)

backed_plain : (W : Worker) → Plain (backed_off W)
unfolding backed_off
backed_plain W = both W.head.link.stopping (ended W) (reconnecting W) (told _ refl) (reconnecting_plain W)

connect_plain : (W : Worker) (a : Answer) → Plain (connect_answered W a)
connect_plain W a = both (is_opened a.kind) (opened W) (down W) (opened_plain W) (down_plain W)

taken_plain : (p : Phase) (W : Worker) (at : At) → Plain (taken p W at)
unfolding taken
taken_plain Begin W at = top_plain W
taken_plain Connect W at = top_plain W
taken_plain OpenVersion W at = top_plain W
taken_plain Version W at = top_plain W
taken_plain Read W at = top_plain W
taken_plain Describe W at = top_plain W
taken_plain AskWrite W at = top_plain W
taken_plain ReadBack W at = top_plain W
taken_plain Wait W at = top_plain W
taken_plain Backoff W at = top_plain W
taken_plain OpenFailedTold W at = told _ refl
taken_plain OpenMetaTold W at = connected_plain W
taken_plain ConnectedTold W at = told _ refl
taken_plain MetaTold W at = writing_plain W at Tail
taken_plain ValuesTold W at = reading_plain W at
taken_plain InfoTold W at = checking_plain W at
taken_plain RefusedTold W at = writing_plain W at W.head.progress.after
taken_plain LostTold W at = down_plain W
taken_plain OutcomeTold W at = applied_plain W at
taken_plain BackTold W at = writing_plain W at W.head.progress.after
taken_plain FailedTold W at = staling_plain W
taken_plain StaleTold W at = disconnected_plain W
taken_plain DisconnectedTold W at = told _ refl
taken_plain ConnectingTold W at = top_plain W
taken_plain Stopped W at = top_plain W

pub handled_plain : (p : Phase) (W : Worker) (at : At) (a : Answer) → Plain (handled p W at a)
unfolding handled
handled_plain Begin W at a = top_plain W
handled_plain Connect W at a = connect_plain W a
handled_plain OpenVersion W at a = open_plain W a
handled_plain Version W at a = round_plain W at a
handled_plain Read W at a = results_plain W at a
handled_plain Describe W at a = descriptions_plain W a
handled_plain AskWrite W at a = written_plain W a
handled_plain ReadBack W at a = back_plain W a
handled_plain Wait W at a = waited_plain W at
handled_plain Backoff W at a = backed_plain W
handled_plain OpenFailedTold W at a = taken_plain OpenFailedTold W at
handled_plain OpenMetaTold W at a = taken_plain OpenMetaTold W at
handled_plain ConnectedTold W at a = taken_plain ConnectedTold W at
handled_plain MetaTold W at a = taken_plain MetaTold W at
handled_plain ValuesTold W at a = taken_plain ValuesTold W at
handled_plain InfoTold W at a = taken_plain InfoTold W at
handled_plain RefusedTold W at a = taken_plain RefusedTold W at
handled_plain LostTold W at a = taken_plain LostTold W at
handled_plain OutcomeTold W at a = taken_plain OutcomeTold W at
handled_plain BackTold W at a = taken_plain BackTold W at
handled_plain FailedTold W at a = taken_plain FailedTold W at
handled_plain StaleTold W at a = taken_plain StaleTold W at
handled_plain DisconnectedTold W at a = taken_plain DisconnectedTold W at
handled_plain ConnectingTold W at a = taken_plain ConnectingTold W at
handled_plain Stopped W at a = taken_plain Stopped W at

-- an accepted step tells no refusal
pub stepped_plain : (W : Worker) (at : At) (a : Answer) → Plain (stepped W at a)
unfolding stepped
stepped_plain W at a = finished_plain (handled W.head.progress.phase (clocked W at) at a) at (handled_plain W.head.progress.phase (clocked W at) at a)

-- a step whose check is not 0 is refused by it, and any other is accepted
pub step_refused_by : (W : Worker) (at : At) (a : Answer) (out n : ℕ) → n ≡ step_check W at a out → eqb n 0 ≡ false → tell W (reply.refused n) [] ≡ step W at a out
unfolding step
step_refused_by W at a out n e h =
    ap (λ (k : ℕ). tell W (reply.refused k) []) e
    ∙ ap (λ (b : Bool). cond b (stepped W at a) (tell W (reply.refused (step_check W at a out)) [])) (sym (ap (λ (k : ℕ). eqb k 0) (sym e) ∙ h))

pub step_refused : (W : Worker) (at : At) (a : Answer) (out : ℕ) (r : Refusal) → number r ≡ step_check W at a out → step W at a out ≡ tell W (reply.refused (number r)) []
step_refused W at a out r e = sym (step_refused_by W at a out (number r) e (not_zero r))

pub step_accepted : (W : Worker) (at : At) (a : Answer) (out : ℕ) → 0 ≡ step_check W at a out → stepped W at a ≡ step W at a out
unfolding step
step_accepted W at a out e = ap (λ (n : ℕ). cond (eqb n 0) (stepped W at a) (tell W (reply.refused n) [])) e

-- a refused step leaves the engine as it was
pub left_same : (W : Worker) (at : At) (a : Answer) (out : ℕ) → eqb (step W at a out).reply.code 0 ≡ false → (step W at a out).left ≡ W
unfolding step
left_same W at a out z = go (eqb (step_check W at a out) 0) z
  where
    go : (b : Bool) → eqb (cond b (stepped W at a) (tell W (reply.refused (step_check W at a out)) [])).reply.code 0 ≡ false
        → (cond b (stepped W at a) (tell W (reply.refused (step_check W at a out)) [])).left ≡ W
    go true q = let p : eqb (stepped W at a).reply.code 0 ≡ true = rw (stepped_plain W at a).accepted refl in absurd (true≢false (sym p ∙ q))
    go false q = refl
