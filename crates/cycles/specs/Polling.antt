-- Rule 9: rounds, the writes behind them, and the waits between them.
use Rattle.std.specs.Prelude.{false, cond, List, [], ℕ, Float, length, Option, Some, None}
use Rattle.std.proofs.Math.Option.{some}
use Rattle.std.specs.Float.{binary64}
use Rattle.std.specs.Float.Ieee.{round as rounded, sub, le}
use Rattle.lent.specs.Lent.{tag_bytes}
use Rattle.rounds.specs.Round.{Round, with_polled, round_of}
use Rattle.queue.specs.Queue.{popped, rest}
use Rattle.heads.specs.Progress.{with_writing, with_round}
use Rattle.heads.specs.Stats.{read_stats, tail_stats}
use Rattle.heads.specs.declared.progress.After.{After}
use Rattle.heads.specs.declared.progress.After.TheVariants.{Tail, Idle, End}
use Rattle.heads.specs.declared.progress.Phase.TheVariants.{Read, Describe, Version, Wait}
use Rattle.engine.specs.Engine.{with_cycle, with_progress}
use Rattle.board.specs.Board.{with_queue}
use Rattle.descriptions.specs.Descriptions.{describing}
use Rattle.replies.specs.Reply as reply
use Rattle.replies.specs.declared.at.At.{At}
use Rattle.replies.specs.Worker.{Worker, Told, Done, tell, asks, worker, with_board, phased, tallied, goes_on}
use Rattle.replies.specs.declared.response.Said.{Said}
use Rattle.replies.specs.Losing.{is_empty, ended}
use Rattle.queue.specs.declared.Write.{Write}

-- Rule 9: seconds since the round's start
abbrev pub elapsed : Worker → At → Float
elapsed W at = sub binary64 at.clock W.head.progress.start

-- Rule 9: seconds left of the tick
abbrev pub remaining : Worker → At → Float
remaining W at = sub binary64 W.head.progress.tick (elapsed W at)

-- nothing is told yet: a round is to be worked out
abbrev pub polls : Worker → Told
polls W = tell W reply.go_on []

-- Rule 9: the rest of the tick is waited for
abbrev pub waiting : Worker → At → Told
waiting W at = asks W Wait (reply.wait (remaining W at))

-- Rule 9: the wait between rounds ends within 0.0001 s of its tick
unfoldable pub idle : Worker → At → Told
idle W at = cond (le (remaining W at) (rounded binary64 false 1 10000)) (polls W) (waiting W at)

-- Rules 9 and 10: a round has ended; one that took longer than its tick is followed by the next at once
unfoldable pub tail : Worker → At → Told
tail W at =
    let next = tallied W (tail_stats W.head.stats (elapsed W at) W.head.progress.tick at.wall) in
    cond (le (elapsed W at) W.head.progress.tick) (idle next at) (polls next)

-- Rule 8: the writing has ended, and it goes on where it came from
unfoldable pub resume : Worker → At → After → Told
resume W at Tail = tail W at
resume W at Idle = idle W at
resume W at End = ended W

unfoldable pub writing_of : Worker → At → After → Option Write → Told
writing_of W at after None = resume W at after
writing_of W at after (Some w) =
    tell (worker (with_progress W.head (with_writing W.head.progress after w.tag)) (with_queue W.board (rest W.board.queue))) (reply.write w.tag w.value) []

-- Rule 8: the first write that waits is asked for; an empty write queue ends the writing
abbrev pub writing : Worker → At → After → Told
writing W at after = writing_of W at after (popped W.board.queue)

-- Rule 9: at a boundary the version is asked for
unfoldable pub checking : Worker → At → Told
checking W at = cond W.head.progress.boundary (asks W Version reply.version) (writing W at Tail)

-- Rules 8 and 10: the round's tags are counted, and the descriptions that are wanted are asked for
unfoldable pub reading : Worker → At → Told
reading W at =
    let B = describing W.board in
    let next = tallied (with_board W B) (read_stats W.head.stats (length W.board.asked)) in
    cond (is_empty B.asked) (checking next at) (tell (phased next Describe) (reply.describe (length B.asked)) (tag_bytes B.asked))

-- Rule 6: a round at the clock reading
abbrev pub round_at : Worker → At → Round
round_at W at = round_of W.board W.head.options W.head.cycle at.clock

abbrev pub with_worked : Worker → At → Round → Worker
with_worked W at R =
    worker (with_progress (with_cycle W.head R.after.cycle) (with_round W.head.progress at.clock R.tick R.boundary))
    (with_polled W.board R.after R.list)

abbrev pub worked : Told → Round → Told
worked T R = record { left = T.left; reply = T.reply; bytes = T.bytes; round = some R }

unfoldable pub polled : Worker → At → Round → Told
polled W at R =
    let next = with_worked W at R in
    let asked = next.board.asked in
    worked (cond (is_empty asked) (reading next at) (tell (phased next Read) (reply.read (length asked)) (tag_bytes asked))) R

-- Rule 9: the next round, unless a stop was asked for; then the writes that wait still go out
unfoldable pub poll : Worker → At → Told
poll W at = cond W.head.link.stopping (writing W at End) (polled W at (round_at W at))

-- Where an empty round would be followed by another at the same clock reading, its tick is waited for; the ticks of an engine are 0 or at least 0.001 s,
-- and at cycle 0 every round asks for the version, so that no engine comes to this.
abbrev pub lastly : Told → At → Told
lastly T at = cond (goes_on T) (record { left = (waiting T.left at).left; reply = (waiting T.left at).reply; bytes = []; round = T.round }) T

-- Rule 9: a step works out one round at most
unfoldable pub finished : Told → At → Told
finished T at = cond (goes_on T) (lastly (poll T.left at) at) T

-- What is said at the end, where s was said so far: all that s came to, whatever it is, is finished.
pub record Goes (s : Said) (at : At) (board : List ℕ) (r : Said) (board' out out' : List ℕ) : Type 0 where
  pub goes : (T : Told) (before : List ℕ) → Done T s board before out → Done (finished T at) r board' before out'
