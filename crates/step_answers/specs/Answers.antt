-- Rule 9: what each answer of the host comes to.
use Rattle.std.specs.Prelude.{Bool, true, false, cond, length, Option, None, ℕ}
use Rattle.values.specs.declared.value.Value.TheVariants.{Null}
use Rattle.lent.specs.Lent.{cell_bytes, tag_bytes}
use Rattle.heads.specs.Version.{is_reloaded}
use Rattle.versions.specs.Versions.{version_table}
use Rattle.descriptions.specs.Descriptions.{learnt, learnt_none}
use Rattle.writes.specs.ReadBack.{read_back_tags, read_back_first, kept_back}
use Rattle.heads.specs.Link.{is_state, with_attempt, with_version}
use Rattle.heads.specs.Stats.{reconnected, reloaded}
use Rattle.heads.specs.declared.link.State.TheVariants.{Connecting, Connected}
use Rattle.heads.specs.declared.progress.After.TheVariants.{Tail, Idle, End}
use Rattle.heads.specs.declared.progress.Phase.TheVariants.{OpenVersion, ReadBack, OpenFailedTold, OpenMetaTold, ConnectedTold, MetaTold, ValuesTold, InfoTold, RefusedTold, LostTold, OutcomeTold, BackTold, ConnectingTold}
use Rattle.board.specs.Board.{with_records, asking}
use Rattle.readings.specs.Changes.{applied_to, changes_in}
use Rattle.replies.specs.Reply as reply
use Rattle.replies.specs.declared.at.At.{At}
use Rattle.replies.specs.Worker.{Worker, Told, tell, asks, with_board, phased, linked, stated, tallied}
use Rattle.replies.specs.Losing.{is_empty, failing, ended, down, top}
use Rattle.cycles.specs.Polling.{polls, writing, reading}
use Rattle.step_checks.specs.declared.answer.Kind.{Kind}
use Rattle.step_checks.specs.declared.answer.Kind.TheVariants.{Version, Written, Refused}
use Rattle.step_checks.specs.Kinds.{is_opened, is_lost, is_descriptions}
use Rattle.step_checks.specs.Awaited.{Answer}

-- Rule 9: connected; the attempts are counted afresh, and the status is told if it changed
unfoldable pub connected : Worker → Told
connected W =
    let next = linked W (with_attempt W.head.link 0) in
    cond (is_state W.head.link Connected) (polls next) (asks (stated next Connected) ConnectedTold (reply.status Connected))

-- Rule 9: a reconnect attempt
unfoldable pub reconnecting : Worker → Told
reconnecting W =
    let next = tallied W (reconnected W.head.stats) in
    cond (is_state W.head.link Connecting) (top next) (asks (stated next Connecting) ConnectingTold (reply.status Connecting))

-- Rules 8 and 9: opened; writes left over from before the connect fail first
unfoldable pub opened : Worker → Told
opened W = cond (is_empty W.board.queue) (asks W OpenVersion reply.version) (failing W OpenFailedTold)

-- the number of a version; none where the controller has none
abbrev pub number_of : Kind → Option ℕ
number_of (Version number) = number
number_of kind = None

-- Rule 8: the version is kept, and what a change or a connect does is done
abbrev pub versioned : Worker → Bool → Answer → Worker
versioned W connecting a =
    let old = W.head.link.version in
    let B = W.board in
    linked (with_board W (with_records B (version_table old (number_of a.kind) connecting a.list B.table.words B.table.tags))) (with_version W.head.link (number_of a.kind))

-- Rule 8: a version change from non-null counts a reload, and is told
unfoldable pub open_version : Worker → Answer → Told
open_version W a =
    let next = versioned W true a in
    cond (is_reloaded W.head.link.version (number_of a.kind)) (asks (tallied next (reloaded W.head.stats)) OpenMetaTold reply.meta) (connected next)

unfoldable pub round_version : Worker → At → Answer → Told
round_version W at a =
    let next = versioned W false a in
    cond (is_reloaded W.head.link.version (number_of a.kind)) (asks (tallied next (reloaded W.head.stats)) MetaTold reply.meta) (writing next at Tail)

-- Rule 7: the results of a round; a lost connection goes down
unfoldable pub results : Worker → At → Answer → Told
results W at a =
    let C = applied_to W.board a.list W.head.progress.start at.wall true in
    let next = with_board W C.board in
    cond (is_lost a.kind) (down W)
    (cond (is_empty C.changes) (reading next at)
    (tell (phased next ValuesTold) (reply.values (length C.changes)) (cell_bytes (changes_in C.board C.changes))))

-- Rule 8: descriptions; every tag asked is told
unfoldable pub descriptions : Worker → Answer → Told
descriptions W a =
    let B = W.board in
    let tags = B.table.tags in
    let known = cond (is_descriptions a.kind) (learnt a.list B.asked tags) (learnt_none B.asked tags) in
    tell (phased (with_board W (with_records B known)) InfoTold) (reply.info (length B.asked)) (tag_bytes B.asked)

abbrev pub written_as : Worker → Kind → Told
written_as W Written =
    let B = asking W.board (read_back_tags W.board.table.words W.head.progress.tag) in
    tell (phased (with_board W B) ReadBack) (reply.read_back (length B.asked)) (tag_bytes B.asked)
written_as W (Refused error message) = asks W RefusedTold (reply.was_refused W.head.progress.tag error message)
written_as W kind = asks W LostTold (reply.was_lost W.head.progress.tag)

-- Rule 8: a write that went through is followed by reading the tag and its word; one refused by the driver tells its kind; one lost ends the connection
unfoldable pub written : Worker → Answer → Told
written W a = written_as W a.kind

-- Rule 8: the outcome, with the value read back; the results are kept until it is taken. Read-back lost: ok with null, then the connection ends.
unfoldable pub read_back : Worker → Answer → Told
read_back W a =
    let k = W.head.progress.tag in
    cond (is_lost a.kind) (asks W LostTold (reply.went_through k Null))
    (asks (with_board W (kept_back W.board a.list)) OutcomeTold (reply.went_through k (read_back_first a.list)))

-- Rules 7 and 8: the read-back is applied once its outcome is taken, at the clock and the wall time of that moment
unfoldable pub back_applied : Worker → At → Told
back_applied W at =
    let C = applied_to W.board W.board.back at.clock at.wall false in
    let next = with_board W C.board in
    cond (is_empty C.changes) (writing next at W.head.progress.after)
    (tell (phased next BackTold) (reply.values (length C.changes)) (cell_bytes (changes_in C.board C.changes)))

-- Rule 9: the wait between rounds is over, or was cut short
unfoldable pub waited : Worker → At → Told
waited W at = writing W at (cond W.head.link.stopping End Idle)

-- Rule 9: a backoff wait ends at its first answer
unfoldable pub backed_off : Worker → Told
backed_off W = cond W.head.link.stopping (ended W) (reconnecting W)

-- Rule 9: what a connect comes to
abbrev pub connect_answered : Worker → Answer → Told
connect_answered W a = cond (is_opened a.kind) (opened W) (down W)
