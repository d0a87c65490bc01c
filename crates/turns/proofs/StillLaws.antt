-- Every part of a step but the round keeps the tiers, the order and the slice index. `still-X` says it of the definition X of `replies`, `cycles`, `step_answers` or `worker`: what X tells leaves an
-- engine that keeps all that `Keeps` names, and is no round.
use mathlib.Core.Path.{◌≡◌, refl, sym}
use mathlib.Core.Bool.{Bool, true, false, cond, true≢false}
use mathlib.Core.List.{List, [], map}
use Prim.Native.Nat.{ℕ}
use native.Mathlib.Omega.{arith}
use lib.Ieee.{Float, binary64, round as rounded, le}
use lib.IntN.{ℤ}
use lib.ListN.{length, take}
use Rattle.std.specs.Prelude.{Option, Some, None}
use Rattle.stale.specs.Stale.{tag_stale, staled_in}
use Rattle.results.specs.Results.{result_count}
use Rattle.descriptions.specs.Descriptions.{unwanted, found_in, found_count, learnt, learnt_none, describing}
use Rattle.table.specs.declared.tag.Tag.{Tag}
use Rattle.table.specs.declared.tag.Description.TheVariants.{Nothing as NoDescription}
use Rattle.settings.specs.Settings.{settings_ok}
use Rattle.heads.specs.Version.{is_reloaded}
use Rattle.versions.specs.Versions.{version_table}
use Rattle.queue.specs.Queue.{popped}
use Rattle.heads.specs.Link.{is_state, with_attempt}
use Rattle.heads.specs.Stats.{read_stats, tail_stats, reconnected}
use Rattle.heads.specs.declared.link.State.TheVariants.{Disconnected, Connecting, Connected}
use Rattle.heads.specs.declared.progress.After.{After}
use Rattle.heads.specs.declared.progress.After.TheVariants.{Tail, Idle, End}
use Rattle.heads.specs.declared.progress.Phase.{Phase}
use Rattle.heads.specs.declared.progress.Phase.TheVariants.{Begin, Connect, OpenVersion, Version, Read, Describe, Write, ReadBack, Wait, Backoff, OpenFailedTold, OpenMetaTold, ConnectedTold, MetaTold, ValuesTold, InfoTold, RefusedTold, LostTold, OutcomeTold, BackTold, FailedTold, StaleTold, DisconnectedTold, ConnectingTold, Stopped}
use Rattle.turns.proofs.TierLaws.{places, place_of, map-kept}
use Rattle.board.specs.Board.{with_records}
use Rattle.readings.specs.Changes.{applied_to}
use Rattle.replies.specs.Reply as reply
use Rattle.replies.specs.declared.reply.Reply.{Reply}
use Rattle.replies.specs.declared.at.At.{At}
use Rattle.replies.specs.Worker.{Worker, tell, asks, with_board, phased, linked, tallied}
use Rattle.replies.specs.Losing.{is_empty, failing, ended, backing_off, disconnected, staling, down, top}
use Rattle.cycles.specs.Polling.{elapsed, remaining, polls, waiting, idle, tail, resume, writing_of, writing, checking, reading}
use Rattle.step_checks.specs.declared.answer.Kind.{Kind}
use Rattle.step_checks.specs.declared.answer.Kind.TheVariants as kind
use Rattle.step_checks.specs.declared.awaiting.Wait.TheVariants as wait
use Rattle.step_checks.specs.Kinds.{is_opened, is_version, is_lost, is_descriptions}
use Rattle.step_checks.specs.Awaited.{Answer, awaited, answers, contents}
use Rattle.step_answers.specs.Answers.{number_of, versioned, connected, reconnecting, opened, open_version, round_version, results, descriptions, written_as, written, read_back, back_applied, waited, backed_off, connect_answered}
use Rattle.worker.specs.Steps.{taken, handled}
use Rattle.turns.proofs.RateLaws.{rated_version}
use Rattle.turns.proofs.KeepLaws.{Keeps, keeps_all, keeps_tags, keeps_records, keeps_after, Still, still_tell, still_if, still_after, apply_places, known_places, version_tiers}
use Rattle.queue.specs.declared.Write.{Write as Queued}

-- ---- the end, and a connection that is lost

module _ (W : Worker) where
  -- nothing done
  pub keeps_refl : Keeps W W
  keeps_refl = keeps_all W W refl refl refl refl refl refl

  pub still_ask : (p : Phase) (r : Reply) → Still W (asks W p r)
  still_ask p r = still_tell W (phased W p) r [] (keeps_all W (phased W p) refl refl refl refl refl refl)

  pub still_failing : (p : Phase) → Still W (failing W p)
  still_failing p = still_tell W _ _ _ (keeps_all W _ refl refl refl refl refl refl)

  pub still_ended : Still W (ended W)
  still_ended = still_tell W _ _ _ (keeps_all W _ refl refl refl refl refl refl)

  pub still_backing_off : Still W (backing_off W)
  still_backing_off = still_tell W _ _ _ (keeps_all W _ refl refl refl refl refl refl)

  pub still_disconnected : Still W (disconnected W)
  unfolding disconnected
  still_disconnected = still_if W (is_state W.head.link Disconnected) _ _ still_backing_off (still_tell W _ _ _ (keeps_all W _ refl refl refl refl refl refl))

  pub still_top : Still W (top W)
  unfolding top
  still_top = still_if W W.head.link.stopping _ _ still_ended (still_ask Connect reply.connect)

pub still_staling : (W : Worker) → Still W (staling W)
unfolding staling staled_in tag_stale
still_staling W =
    let C = staled_in W.board in
    let next = with_board W C.board in
    let k : Keeps W next = keeps_records W (map tag_stale W.board.table.tags) (map-kept place_of tag_stale (λ x. refl) W.board.table.tags) in
    still_if W (is_empty C.changes) _ _ (still_after W next (disconnected next) k (still_disconnected next))
    (still_tell W (phased next StaleTold) _ _ (keeps_after W next (phased next StaleTold) k (keeps_all next (phased next StaleTold) refl refl refl refl refl refl)))

pub still_down : (W : Worker) → Still W (down W)
unfolding down
still_down W = still_if W W.head.link.stopping _ _ (still_ended W) (still_if W (is_empty W.board.queue) _ _ (still_staling W) (still_failing W FailedTold))

-- ---- rounds, but for the round itself

module _ (at : At) where
  pub still_polls : (W : Worker) → Still W (polls W)
  still_polls W = still_tell W W _ _ (keeps_refl W)

  pub still_waiting : (W : Worker) → Still W (waiting W at)
  still_waiting W = still_ask W Wait _

  pub still_idle : (W : Worker) → Still W (idle W at)
  unfolding idle
  still_idle W = still_if W (le (remaining W at) (rounded binary64 false 1 10000)) _ _ (still_polls W) (still_waiting W)

  pub still_tail : (W : Worker) → Still W (tail W at)
  unfolding tail
  still_tail W =
      let next = tallied W (tail_stats W.head.stats (elapsed W at) W.head.progress.tick at.wall) in
      let k : Keeps W next = keeps_all W next refl refl refl refl refl refl in
      still_if W (le (elapsed W at) W.head.progress.tick) _ _ (still_after W next (idle next at) k (still_idle next)) (still_after W next (polls next) k (still_polls next))

  pub still_resume : (W : Worker) (a : After) → Still W (resume W at a)
  unfolding resume
  still_resume W Tail = still_tail W
  still_resume W Idle = still_idle W
  still_resume W End = still_ended W

  still_writing_of : (W : Worker) (a : After) (p : Option Queued) → Still W (writing_of W at a p)
  unfolding writing_of
  still_writing_of W a None = still_resume W a
  still_writing_of W a (Some w) = still_tell W _ _ _ (keeps_all W _ refl refl refl refl refl refl)

  pub still_writing : (W : Worker) (a : After) → Still W (writing W at a)
  still_writing W a = still_writing_of W a (popped W.board.queue)

  pub still_checking : (W : Worker) → Still W (checking W at)
  unfolding checking
  still_checking W = still_if W W.head.progress.boundary _ _ (still_ask W Version reply.version) (still_writing W Tail)

  pub still_reading : (W : Worker) → Still W (reading W at)
  unfolding reading
  still_reading W =
      let B = describing W.board in
      let next = tallied (with_board W B) (read_stats W.head.stats (length W.board.asked)) in
      let mid = with_board W (with_records W.board (map unwanted W.board.table.tags)) in
      let k : Keeps W next = keeps_after W mid next
      (keeps_records W (map unwanted W.board.table.tags) (map-kept place_of unwanted (λ x. refl) W.board.table.tags))
      (keeps_all mid next refl refl refl refl refl refl) in
      still_if W (is_empty B.asked) _ _ (still_after W next (checking next at) k (still_checking next))
      (still_tell W (phased next Describe) _ _ (keeps_after W next (phased next Describe) k (keeps_all next (phased next Describe) refl refl refl refl refl refl)))

-- ---- answers

pub still_connected : (W : Worker) → Still W (connected W)
unfolding connected
still_connected W =
    let next = linked W (with_attempt W.head.link 0) in
    still_if W (is_state W.head.link Connected) _ _ (still_tell W next _ _ (keeps_all W next refl refl refl refl refl refl))
    (still_tell W _ _ _ (keeps_all W _ refl refl refl refl refl refl))

pub still_reconnecting : (W : Worker) → Still W (reconnecting W)
unfolding reconnecting
still_reconnecting W =
    let next = tallied W (reconnected W.head.stats) in
    still_if W (is_state W.head.link Connecting) _ _ (still_after W next (top next) (keeps_all W next refl refl refl refl refl refl) (still_top next))
    (still_tell W _ _ _ (keeps_all W _ refl refl refl refl refl refl))

pub still_opened : (W : Worker) → Still W (opened W)
unfolding opened
still_opened W = still_if W (is_empty W.board.queue) _ _ (still_ask W OpenVersion reply.version) (still_failing W OpenFailedTold)

-- check 14 has let the settings in
keeps_versioned : (W : Worker) (connecting : Bool) (a : Answer) → settings_ok W.head.count a.list ≡ true → Keeps W (versioned W connecting a)
keeps_versioned W connecting a ok =
    let B = W.board in
    let tags = version_table W.head.link.version (number_of a.kind) connecting a.list B.table.words B.table.tags in
    let mid = with_board W (with_records B tags) in
    keeps_after W mid (versioned W connecting a)
    (keeps_tags W tags (version_tiers W.head.link.version (number_of a.kind) connecting a.list B.table.words B.table.tags)
    (rated_version W.head.count a.list ok W.head.link.version (number_of a.kind) connecting B.table.words B.table.tags))
    (keeps_all mid (versioned W connecting a) refl refl refl refl refl refl)

-- something told from the engine M
still_told : (W M X : Worker) (r : Reply) (bytes : List ℕ) → Keeps W M → Keeps M X → Still W (tell X r bytes)
still_told W M X r bytes k j = still_tell W X r bytes (keeps_after W M X k j)

pub still_open_version : (W : Worker) (a : Answer) → settings_ok W.head.count a.list ≡ true → Still W (open_version W a)
unfolding open_version
still_open_version W a ok =
    let next = versioned W true a in
    let k = keeps_versioned W true a ok in
    still_if W (is_reloaded W.head.link.version (number_of a.kind)) _ _ (still_told W next _ _ _ k (keeps_all next _ refl refl refl refl refl refl))
    (still_after W next (connected next) k (still_connected next))

pub still_round-version : (W : Worker) (at : At) (a : Answer) → settings_ok W.head.count a.list ≡ true → Still W (round_version W at a)
unfolding round_version
still_round-version W at a ok =
    let next = versioned W false a in
    let k = keeps_versioned W false a ok in
    still_if W (is_reloaded W.head.link.version (number_of a.kind)) _ _ (still_told W next _ _ _ k (keeps_all next _ refl refl refl refl refl refl))
    (still_after W next (writing next at Tail) k (still_writing at next Tail))

-- readings applied
keeps_applied : (W : Worker) (given : List ℕ) (start : Float) (t : ℤ) (polled : Bool) → Keeps W (with_board W (applied_to W.board given start t polled).board)
unfolding applied_to
keeps_applied W given start t polled =
    keeps_records W _ (apply_places given start t polled 0 (take (result_count given) W.board.asked) (record { tags = W.board.table.tags; sent = [] }))

pub still_results : (W : Worker) (at : At) (a : Answer) → Still W (results W at a)
unfolding results
still_results W at a =
    let C = applied_to W.board a.list W.head.progress.start at.wall true in
    let next = with_board W C.board in
    let k = keeps_applied W a.list W.head.progress.start at.wall true in
    still_if W (is_lost a.kind) _ _ (still_down W)
    (still_if W (is_empty C.changes) _ _ (still_after W next (reading next at) k (still_reading at next))
    (still_told W next _ _ _ k (keeps_all next _ refl refl refl refl refl refl)))

-- either of two
cond_known : (b : Bool) (x y : List Tag) (P : List Tag → Type 0) → P x → P y → P (cond b x y)
cond_known true x y P p q = p
cond_known false x y P p q = q

pub still_descriptions : (W : Worker) (a : Answer) → Still W (descriptions W a)
unfolding descriptions
still_descriptions W a =
    let B = W.board in
    let tags = B.table.tags in
    let known = cond (is_descriptions a.kind) (learnt a.list B.asked tags) (learnt_none B.asked tags) in
    let next = with_board W (with_records B known) in
    let e : places known ≡ places tags = cond_known (is_descriptions a.kind) _ _ (λ (l : List Tag). places l ≡ places tags)
    (known_places (found_in a.list) 0 (take (found_count a.list) B.asked) tags) (known_places (λ (i : ℕ). NoDescription) 0 B.asked tags) in
    still_told W next _ _ _ (keeps_records W known e) (keeps_all next _ refl refl refl refl refl refl)

still_written_as : (W : Worker) (k : Kind) → Still W (written_as W k)
still_written_as W kind.Written = still_tell W _ _ _ (keeps_all W _ refl refl refl refl refl refl)
still_written_as W (kind.Refused error message) = still_ask W RefusedTold _
still_written_as W k = still_ask W LostTold _

pub still_written : (W : Worker) (a : Answer) → Still W (written W a)
unfolding written
still_written W a = still_written_as W a.kind

pub still_read-back : (W : Worker) (a : Answer) → Still W (read_back W a)
unfolding read_back
still_read-back W a = still_if W (is_lost a.kind) _ _ (still_ask W LostTold _) (still_tell W _ _ _ (keeps_all W _ refl refl refl refl refl refl))

pub still_back_applied : (W : Worker) (at : At) → Still W (back_applied W at)
unfolding back_applied
still_back_applied W at =
    let C = applied_to W.board W.board.back at.clock at.wall false in
    let next = with_board W C.board in
    let k = keeps_applied W W.board.back at.clock at.wall false in
    still_if W (is_empty C.changes) _ _ (still_after W next (writing next at W.head.progress.after) k (still_writing at next W.head.progress.after))
    (still_told W next _ _ _ k (keeps_all next _ refl refl refl refl refl refl))

pub still_waited : (W : Worker) (at : At) → Still W (waited W at)
unfolding waited
still_waited W at = still_writing at W _

pub still_backed_off : (W : Worker) → Still W (backed_off W)
unfolding backed_off
still_backed_off W = still_if W W.head.link.stopping _ _ (still_ended W) (still_reconnecting W)

-- a connect answered
still_connect_answered : (W : Worker) (a : Answer) → Still W (connect_answered W a)
still_connect_answered W a = still_if W (is_opened a.kind) _ _ (still_opened W) (still_down W)

pub still_taken : (p : Phase) (W : Worker) (at : At) → Still W (taken p W at)
unfolding taken
still_taken Begin W at = still_top W
still_taken Connect W at = still_top W
still_taken OpenVersion W at = still_top W
still_taken Version W at = still_top W
still_taken Read W at = still_top W
still_taken Describe W at = still_top W
still_taken Write W at = still_top W
still_taken ReadBack W at = still_top W
still_taken Wait W at = still_top W
still_taken Backoff W at = still_top W
still_taken OpenFailedTold W at = still_ask W OpenVersion reply.version
still_taken OpenMetaTold W at = still_connected W
still_taken ConnectedTold W at = still_polls at W
still_taken MetaTold W at = still_writing at W Tail
still_taken ValuesTold W at = still_reading at W
still_taken InfoTold W at = still_checking at W
still_taken RefusedTold W at = still_writing at W W.head.progress.after
still_taken LostTold W at = still_down W
still_taken OutcomeTold W at = still_back_applied W at
still_taken BackTold W at = still_writing at W W.head.progress.after
still_taken FailedTold W at = still_staling W
still_taken StaleTold W at = still_disconnected W
still_taken DisconnectedTold W at = still_backing_off W
still_taken ConnectingTold W at = still_top W
still_taken Stopped W at = still_top W

-- where a version is waited for, the answer is one
version_met : (k : Kind) → answers wait.Version k ≡ true → is_version k ≡ true
unfolding answers
version_met (kind.Version number) e = refl
version_met k e = absurd (true≢false (sym e))

-- Check 14 of a version's settings, where that is what the phase waits for
pub settings_met : (W : Worker) (a : Answer) → answers wait.Version a.kind ≡ true → contents W a ≡ 0 → settings_ok W.head.count a.list ≡ true
unfolding contents
settings_met W a k e = go (settings_ok W.head.count a.list) refl (rw (version_met a.kind k) at e)
  where
    go : (b : Bool) → settings_ok W.head.count a.list ≡ b → ◌≡◌ {A = ℕ} (cond b 0 14) 0 → settings_ok W.head.count a.list ≡ true
    go true q h = q
    go false q h = absurd (omega arith)

pub still_handled : (p : Phase) (W : Worker) (at : At) (a : Answer) → answers (awaited p) a.kind ≡ true → contents W a ≡ 0 → Still W (handled p W at a)
unfolding handled answers awaited
still_handled Begin W at a k e = still_top W
still_handled Connect W at a k e = still_connect_answered W a
still_handled OpenVersion W at a k e = still_open_version W a (settings_met W a k e)
still_handled Version W at a k e = still_round-version W at a (settings_met W a k e)
still_handled Read W at a k e = still_results W at a
still_handled Describe W at a k e = still_descriptions W a
still_handled Write W at a k e = still_written W a
still_handled ReadBack W at a k e = still_read-back W a
still_handled Wait W at a k e = still_waited W at
still_handled Backoff W at a k e = still_backed_off W
still_handled OpenFailedTold W at a k e = still_taken OpenFailedTold W at
still_handled OpenMetaTold W at a k e = still_taken OpenMetaTold W at
still_handled ConnectedTold W at a k e = still_taken ConnectedTold W at
still_handled MetaTold W at a k e = still_taken MetaTold W at
still_handled ValuesTold W at a k e = still_taken ValuesTold W at
still_handled InfoTold W at a k e = still_taken InfoTold W at
still_handled RefusedTold W at a k e = still_taken RefusedTold W at
still_handled LostTold W at a k e = still_taken LostTold W at
still_handled OutcomeTold W at a k e = still_taken OutcomeTold W at
still_handled BackTold W at a k e = still_taken BackTold W at
still_handled FailedTold W at a k e = still_taken FailedTold W at
still_handled StaleTold W at a k e = still_taken StaleTold W at
still_handled DisconnectedTold W at a k e = still_taken DisconnectedTold W at
still_handled ConnectingTold W at a k e = still_taken ConnectingTold W at
still_handled Stopped W at a k e = still_taken Stopped W at
