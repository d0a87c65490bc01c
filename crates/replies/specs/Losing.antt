-- Rules 8 and 9: the end, and a connection that is lost.
use Rattle.std.specs.Prelude.{Bool, true, false, cond, List, [], ◌∷◌, length}
use Rattle.lent.specs.Lent.{cell_bytes, tag_bytes}
use Rattle.heads.specs.Link.{is_state, with_attempt}
use Rattle.heads.specs.Stats.{counted}
use Rattle.heads.specs.declared.link.State.TheVariants.{Disconnected, Stopped as AtStop}
use Rattle.heads.specs.declared.progress.Phase.{Phase}
use Rattle.heads.specs.declared.progress.Phase.TheVariants.{Connect, Backoff, FailedTold, StaleTold, DisconnectedTold, Stopped}
use Rattle.engine.specs.Engine.{backoff_at}
use Rattle.board.specs.Board.{with_queue}
use Rattle.writes.specs.Failing.{queued_tags}
use Rattle.readings.specs.Changes.{changes_in}
use Rattle.stale.specs.Stale.{staled_in}
use Rattle.replies.specs.Reply as reply
use Rattle.replies.specs.Worker.{Worker, Told, tell, asks, with_board, phased, linked, stated}

abbrev pub is_empty : {A : Type 0} → List A → Bool
is_empty [] = true
is_empty (x ∷ l) = false

abbrev pub without_writes : Worker → Worker
without_writes W = with_board W (with_queue W.board [])

-- Rule 9: the writes that wait are told together, and none waits any more
abbrev pub failing : Worker → Phase → Told
failing W p = tell (phased (without_writes W) p) (reply.failed (length (queued_tags W.board))) (tag_bytes (queued_tags W.board))

-- Rule 9: the state is stopped; the writes left are told with this last event
abbrev pub ended : Worker → Told
ended W =
    tell (phased (stated (without_writes W) AtStop) Stopped) (reply.stopped (length (queued_tags W.board))) (tag_bytes (queued_tags W.board))

-- Rule 9: the wait before the next attempt
abbrev pub backing_off : Worker → Told
backing_off W =
    asks (linked W (with_attempt W.head.link (counted W.head.link.attempt))) Backoff (reply.wait (backoff_at W.head.link.attempt))

-- Rule 9: status is told only on change
unfoldable pub disconnected : Worker → Told
disconnected W =
    cond (is_state W.head.link Disconnected) (backing_off W)
    (asks (stated W Disconnected) DisconnectedTold (reply.status Disconnected))

-- Rule 7: every cached tag not stale yet is marked stale and published
unfoldable pub staling : Worker → Told
staling W =
    let C = staled_in W.board in
    let next = with_board W C.board in
    cond (is_empty C.changes) (disconnected next)
    (tell (phased next StaleTold) (reply.values (length C.changes)) (cell_bytes (changes_in C.board C.changes)))

-- Rule 9: the connection is lost
unfoldable pub down : Worker → Told
down W =
    cond W.head.link.stopping (ended W)
    (cond (is_empty W.board.queue) (staling W) (failing W FailedTold))

-- Rule 9: the next connect, unless a stop was asked for
unfoldable pub top : Worker → Told
top W = cond W.head.link.stopping (ended W) (asks W Connect reply.connect)
