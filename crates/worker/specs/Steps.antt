-- Rule 9: a step.
use Rattle.std.specs.Prelude.{cond, List, [], ◌≡◌, ℕ, eqb, Result, Ok, Err}
use Rattle.refusals.specs.Refusals.{number}
use Rattle.refusals.specs.declared.Refusal.{Refusal}
use Rattle.heads.specs.declared.progress.After.TheVariants.{Tail}
use Rattle.heads.specs.declared.progress.Phase.{Phase}
use Rattle.heads.specs.declared.progress.Phase.TheVariants.{Begin, Connect, OpenVersion, Version, Read, Describe, Write, ReadBack, Wait, Backoff, OpenFailedTold, OpenMetaTold, ConnectedTold, MetaTold, ValuesTold, InfoTold, RefusedTold, LostTold, OutcomeTold, BackTold, FailedTold, StaleTold, DisconnectedTold, ConnectingTold, Stopped}
use Rattle.engine.specs.Engine.{with_clock}
use Rattle.replies.specs.declared.at.At.{At}
use Rattle.replies.specs.declared.response.Said.{Said}
use Rattle.replies.specs.Reply as reply
use Rattle.replies.specs.Worker.{Worker, Told, Done, tell, asks, worker}
use Rattle.replies.specs.Losing.{disconnected, backing_off, staling, down, top}
use Rattle.cycles.specs.Polling.{polls, writing, checking, reading, finished}
use Rattle.step_checks.specs.Awaited.{Answer, step_check}
use Rattle.step_answers.specs.Answers.{connected, open_version, round_version, results, descriptions, written, read_back, back_applied, waited, backed_off, connect_answered}

-- Rule 9: an event was taken; what goes on after it. The other phases wait for no event, and none comes to this; they are taken for the last.
unfoldable pub taken : Phase → Worker → At → Told
taken Begin W at = top W
taken Connect W at = top W
taken OpenVersion W at = top W
taken Version W at = top W
taken Read W at = top W
taken Describe W at = top W
taken Write W at = top W
taken ReadBack W at = top W
taken Wait W at = top W
taken Backoff W at = top W
taken OpenFailedTold W at = asks W OpenVersion reply.version
taken OpenMetaTold W at = connected W
taken ConnectedTold W at = polls W
taken MetaTold W at = writing W at Tail
taken ValuesTold W at = reading W at
taken InfoTold W at = checking W at
taken RefusedTold W at = writing W at W.head.progress.after
taken LostTold W at = down W
taken OutcomeTold W at = back_applied W at
taken BackTold W at = writing W at W.head.progress.after
taken FailedTold W at = staling W
taken StaleTold W at = disconnected W
taken DisconnectedTold W at = backing_off W
taken ConnectingTold W at = top W
taken Stopped W at = top W

-- Rule 9: an accepted answer, by the phase that waited for it
unfoldable pub handled : Phase → Worker → At → Answer → Told
handled Begin W at a = top W
handled Connect W at a = connect_answered W a
handled OpenVersion W at a = open_version W a
handled Version W at a = round_version W at a
handled Read W at a = results W at a
handled Describe W at a = descriptions W a
handled Write W at a = written W a
handled ReadBack W at a = read_back W a
handled Wait W at a = waited W at
handled Backoff W at a = backed_off W
handled OpenFailedTold W at a = taken OpenFailedTold W at
handled OpenMetaTold W at a = taken OpenMetaTold W at
handled ConnectedTold W at a = taken ConnectedTold W at
handled MetaTold W at a = taken MetaTold W at
handled ValuesTold W at a = taken ValuesTold W at
handled InfoTold W at a = taken InfoTold W at
handled RefusedTold W at a = taken RefusedTold W at
handled LostTold W at a = taken LostTold W at
handled OutcomeTold W at a = taken OutcomeTold W at
handled BackTold W at a = taken BackTold W at
handled FailedTold W at a = taken FailedTold W at
handled StaleTold W at a = taken StaleTold W at
handled DisconnectedTold W at a = taken DisconnectedTold W at
handled ConnectingTold W at a = taken ConnectingTold W at
handled Stopped W at a = taken Stopped W at

abbrev pub clocked : Worker → At → Worker
clocked W at = worker (with_clock W.head at.clock) W.board

-- Rule 9: an accepted step
unfoldable pub stepped : Worker → At → Answer → Told
stepped W at a = finished (handled W.head.progress.phase (clocked W at) at a) at

-- Rule 9: a step; a refusal gives its number alone and changes nothing
unfoldable pub step : Worker → At → Answer → ℕ → Told
step W at a out =
    let n = step_check W at a out in
    cond (eqb n 0) (stepped W at a) (tell W (reply.refused n) [])

-- What a step of the engine W did: T. Where it was refused, T is the refusal, and no byte was written.
unfoldable pub Stepped : Worker → Told → Result Said Refusal → List ℕ → List ℕ → List ℕ → List ℕ → Type 0
Stepped W T (Ok s) board board' out out' = Done T s board' out out'
Stepped W T (Err r) board board' out out' = (T ≡ tell W (reply.refused (number r)) []) × (board' ≡ board) × (out' ≡ out)
