-- A step comes to the same with more room. `alike-X` says it of the definition X of `replies`, `cycles`, `step_answers` or `worker`: X tells the same, and leaves the same engine but for the rooms.
use mathlib.Core.Path.{◌≡◌, refl, ap, ◌∙◌}
use mathlib.Core.Bool.{Bool, true, false, cond}
use mathlib.Core.List.{List, [], ◌∷◌, map}
use Prim.Native.Nat.{ℕ, suc, ◌+◌, ◌*◌, ◌≤◌}
use native.Mathlib.Omega.{arith}
use lib.Dec.{eqb}
use lib.Ieee.{Float, binary64, round as rounded, le}
use lib.IntN.{ℤ}
use lib.ListN.{length, get_or, set, take, length-map, length-take, length-drop}
use Rattle.std.specs.Prelude.{Option, Some, None}
use Rattle.lists.specs.Keep.{keep}
use Rattle.lists.specs.Sort.{by_keys}
use Rattle.lent.specs.Changes.{change_cells, change_size}
use Rattle.lent.specs.Lent.{cell_bytes, tag_bytes, records}
use Rattle.lent.proofs.LentLaws.{length_bytes, length_tags, length-records}
use Rattle.tags.specs.Lists.{member}
use Rattle.table.specs.Tag.{fresh_tag}
use Rattle.table.specs.Table.{with_description, by_rank}
use Rattle.table.specs.declared.tag.Description.{Description}
use Rattle.table.specs.declared.tag.Description.TheVariants.{Nothing as NoDescription}
use Rattle.table.specs.declared.tag.Tag.{Tag}
use Rattle.values.specs.declared.entry.Entry.{Entry}
use Rattle.values.specs.Entry.{TagResult}
use Rattle.tiers.specs.Listed.{Listed}
use Rattle.apply.specs.Apply.{tag_read, tag_applied, applied_at}
use Rattle.results.specs.Results.{result_count, result_in}
use Rattle.readings.specs.Listed.{Applying, apply_next, apply_from, apply_all}
use Rattle.stale.specs.Stale.{tag_stale, is_staled, staled_in}
use Rattle.descriptions.specs.Descriptions.{is_asked, asked_tags, unwanted, known_from, found_in, found_count, learnt, learnt_none, describing}
use Rattle.settings.specs.Settings.{settings_ok}
use Rattle.heads.specs.Version.{is_changed, is_reloaded}
use Rattle.versions.specs.Versions.{tag_taken, taken_at, each_at, table_taken, version_table, takes_settings}
use Rattle.queue.specs.Queue.{popped, rest}
use Rattle.writes.specs.Failing.{queued_tags}
use Rattle.writes.specs.ReadBack.{read_back_tags, kept_back}
use Rattle.queue.specs.declared.Write.{Write as Queued, Write}
use Rattle.rounds.specs.Round.{Round, Polling, polling_of}
use Rattle.heads.specs.declared.options.Options.{Options}
use Rattle.heads.specs.Link.{is_state, with_attempt}
use Rattle.heads.specs.Stats.{read_stats, tail_stats, reconnected}
use Rattle.heads.specs.declared.link.State.TheVariants.{Disconnected, Connecting, Connected, Stopped as AtStop}
use Rattle.heads.specs.declared.progress.After.{After}
use Rattle.heads.specs.declared.progress.After.TheVariants.{Tail, Idle, End}
use Rattle.heads.specs.declared.progress.Phase.{Phase}
use Rattle.heads.specs.declared.progress.Phase.TheVariants.{Begin, Connect, OpenVersion, Version as AskVersion, Read, Describe, Write as AskWrite, ReadBack, Wait, Backoff, OpenFailedTold, OpenMetaTold, ConnectedTold, MetaTold, ValuesTold, InfoTold, RefusedTold, LostTold, OutcomeTold, BackTold, FailedTold, StaleTold, DisconnectedTold, ConnectingTold, Stopped}
use Rattle.board.specs.Board.{Board, with_records, with_queue, with_asked}
use Rattle.readings.specs.Changes.{applied_to}
use Rattle.replies.specs.Reply as reply
use Rattle.replies.specs.declared.reply.Reply.{Reply}
use Rattle.replies.specs.declared.at.At.{At}
use Rattle.replies.specs.Worker.{Worker, Told, tell, asks, with_board, phased, linked, stated, tallied, goes_on}
use Rattle.replies.specs.Losing.{is_empty, without_writes, failing, ended, backing_off, disconnected, staling, down, top}
use Rattle.cycles.specs.Polling.{elapsed, remaining, polls, waiting, idle, tail, resume, writing_of, writing, checking, reading, round_at, with_worked, worked, polled, poll, lastly, finished}
use Rattle.step_checks.specs.declared.answer.Kind.{Kind}
use Rattle.step_checks.specs.declared.answer.Kind.TheVariants as kind
use Rattle.step_checks.specs.Kinds.{is_opened, is_lost, is_descriptions}
use Rattle.step_checks.specs.Awaited.{Answer, awaited, answers, contents}
use Rattle.step_answers.specs.Answers.{number_of, versioned, connected, reconnecting, opened, open_version, round_version, results, descriptions, written_as, written, read_back, back_applied, waited, backed_off, connect_answered}
use Rattle.worker.specs.Steps.{taken, handled}
use Rattle.checks.specs.Calls.{max_writes}
use Rattle.uncut.specs.Uncut.{board_roomed, roomed}
use Rattle.turns.proofs.TierLaws.{settings_of, map-kept, set-kept}
use Rattle.turns.proofs.StillLaws.{settings_met}
use Rattle.uncut.proofs.FitLaws.{cut_same, ranks_few, Numbered, numbered_same, numbered_version, is_graced, fit_tags, Fits}
use Rattle.uncut.proofs.RoomLaws.{polling_roomed, tick_same, boundary_same, list_same, after_same, round_fits, groups_fit, list_few, room_enough}

-- ---- what readings, descriptions and versions keep of each tag

module _ {A : Type 0} (g : Tag → A) where
  -- either of two
  cond-kept : (b : Bool) (x y l : List Tag) → map g x ≡ map g l → map g y ≡ map g l → map g (cond b x y) ≡ map g l
  cond-kept true x y l p q = p
  cond-kept false x y l p q = q

  module _ (start : Float) (t : ℤ) (polled : Bool) (h : (x : Tag) (e : Entry) → g (tag_read x e start polled) ≡ g x) where
    applied_kept : (tags : List Tag) (k : ℕ) (r : TagResult) → map g (applied_at tags k r start t polled) ≡ map g tags
    unfolding applied_at
    applied_kept tags k r = cond-kept (eqb (get_or tags k fresh_tag).tier 0) tags _ tags refl (set-kept g tags k (tag_applied (get_or tags k fresh_tag) r start t polled) (h (get_or tags k fresh_tag) _))

    apply_kept : (given : List ℕ) (i : ℕ) (ks : List ℕ) (S : Applying) → map g (apply_from given start t polled i ks S).tags ≡ map g S.tags
    unfolding apply_from apply_next
    apply_kept given i [] S = refl
    apply_kept given i (k ∷ ks) S = apply_kept given (suc i) ks (apply_next S k (result_in given i) start t polled) ∙ applied_kept S.tags k (result_in given i)

  known_kept : ((x : Tag) (d : Description) → g (with_description x d) ≡ g x) → (f : ℕ → Description) (i : ℕ) (ks : List ℕ) (tags : List Tag) → map g (known_from f i ks tags) ≡ map g tags
  unfolding known_from
  known_kept h f i [] tags = refl
  known_kept h f i (k ∷ ks) tags = known_kept h f (suc i) ks (set tags k (with_description (get_or tags k fresh_tag) (f i))) ∙ set-kept g tags k (with_description (get_or tags k fresh_tag) (f i)) (h (get_or tags k fresh_tag) (f i))

  pub each_kept : (f : ℕ → Tag → Tag) → ((i : ℕ) (x : Tag) → g (f i x) ≡ g x) → (i : ℕ) (tags : List Tag) → map g (each_at f i tags) ≡ map g tags
  unfolding each_at
  each_kept f h i [] = refl
  each_kept f h i (x ∷ l) = rw (h i x, each_kept f h (suc i) l)

-- a version answer keeps graces
version-graces : (old new : Option ℕ) (connecting : Bool) (settings words : List ℕ) (tags : List Tag) → map is_graced (version_table old new connecting settings words tags) ≡ map is_graced tags
unfolding version_table tag_taken
version-graces old new connecting settings words tags =
    cond-kept is_graced (takes_settings (is_changed old new) connecting) (table_taken (is_changed old new) settings words tags) tags tags
    (each_kept is_graced (taken_at (is_changed old new) settings words) (λ i x. refl) 0 tags) refl

-- ---- a board with one part replaced

module _ (rows : ℕ) (B : Board) (f : Fits rows B) where
  fits_records : (tags : List Tag) → map is_graced tags ≡ map is_graced B.table.tags → Numbered tags → Fits rows (with_records B tags)
  fits_records tags e r = record {
    table_fits = fit_tags rows B.table tags e r f.table_fits;
    groups_fit = f.groups_fit;
    named = f.named;
    asked_few = f.asked_few;
    queue_few = f.queue_few;
    some = f.some;
  }

  pub fits_queue : (q : List Write) → length q ≤ max_writes → Fits rows (with_queue B q)
  fits_queue q h = record { table_fits = f.table_fits; groups_fit = f.groups_fit; named = f.named; asked_few = f.asked_few; queue_few = h; some = f.some }

  fits_asked : (l : List ℕ) → length l ≤ rows → Fits rows (with_asked B l)
  fits_asked l h = record { table_fits = f.table_fits; groups_fit = f.groups_fit; named = f.named; asked_few = h; queue_few = f.queue_few; some = f.some }

  abbrev tags : List Tag
  tags = B.table.tags

  -- what is told of changes: nine cells each, and no more changes than tags
  changes_few : (l : List Tag) (ks : List ℕ) → length ks ≤ rows → length (cell_bytes (records (change_cells l) ks)) ≤ change_size * rows
  changes_few l ks h = omega (arith, length_bytes (records (change_cells l) ks), length-records (change_cells l) 9 (λ k. refl) ks)

  -- a list of tags: two bytes each
  tags_few : (ks : List ℕ) → length ks ≤ rows → length (tag_bytes ks) ≤ change_size * rows
  tags_few ks h = omega (arith, length_tags ks)

  -- tags by rank
  ranked_few : (p : ℕ → Bool) → length (keep p (by_rank tags)) ≤ rows
  ranked_few p = omega (arith, ranks_few p tags, f.table_fits.long)

  -- Rule 7: stale marks
  stale_same : (n : ℕ) → staled_in (board_roomed n B) ≡ record { board = board_roomed n (staled_in B).board; changes = (staled_in B).changes }
  unfolding staled_in
  stale_same n = refl

  stale_few : length (staled_in B).changes ≤ rows
  unfolding staled_in
  stale_few = ranked_few (λ (k : ℕ). is_staled (get_or tags k fresh_tag))

  stale_fits : Fits rows (staled_in B).board
  unfolding staled_in tag_stale
  stale_fits =
      fits_records (map tag_stale tags) (map-kept is_graced tag_stale (λ x. refl) tags)
      (numbered_same (map tag_stale tags) tags (map-kept settings_of tag_stale (λ x. refl) tags) f.table_fits.numbered)

  -- Rule 7: readings
  module _ (given : List ℕ) (start : Float) (t : ℤ) (polled : Bool) where
    abbrev applied : Applying
    applied = apply_all given start t polled B.asked tags

    applied_same : (n : ℕ) → applied_to (board_roomed n B) given start t polled ≡ record { board = board_roomed n (applied_to B given start t polled).board; changes = (applied_to B given start t polled).changes }
    unfolding applied_to
    applied_same n = refl

    applied_few : length (applied_to B given start t polled).changes ≤ rows
    unfolding applied_to
    applied_few = ranked_few (λ (k : ℕ). member k applied.sent)

    applied_fits : Fits rows (applied_to B given start t polled).board
    unfolding applied_to tag_read
    applied_fits =
        let ks = take (result_count given) B.asked in
        let S : Applying = record { tags = tags; sent = [] } in
        fits_records applied.tags (apply_kept is_graced start t polled (λ x e. refl) given 0 ks S)
        (numbered_same applied.tags tags (apply_kept settings_of start t polled (λ x e. refl) given 0 ks S) f.table_fits.numbered)

  -- Rule 8: the tags of the writes that wait: no more bytes than one change has
  queued_few : length (tag_bytes (queued_tags B)) ≤ change_size * rows
  queued_few = omega (arith, length_tags (queued_tags B), length-map B.queue (λ (w : Write). w.tag), f.queue_few, f.some)

describing_fits : (rows : ℕ) (B : Board) → Fits rows B → Fits rows (describing B)
describing_fits rows B f =
    let tags = B.table.tags in
    let mid = with_records B (map unwanted tags) in
    let m : Fits rows mid = fits_records rows B f (map unwanted tags) (map-kept is_graced unwanted (λ x. refl) tags)
    (numbered_same (map unwanted tags) tags (map-kept settings_of unwanted (λ x. refl) tags) f.table_fits.numbered) in
    fits_asked rows mid m (asked_tags tags) (ranked_few rows B f (λ (k : ℕ). is_asked (get_or tags k fresh_tag)))

-- ---- what is told

module _ (rows n : ℕ) where
  -- What T' tells is what T tells, and it leaves the same engine but for the rooms; what fits is kept, and the bytes are no more than those of a change for each tag.
  pub record Alike (T T' : Told) : Type 0 where
    pub fits : Fits rows T.left.board
    pub left_same : T'.left ≡ roomed n T.left
    pub reply_same : T'.reply ≡ T.reply
    pub bytes_same : T'.bytes ≡ T.bytes
    pub bytes_few : length T.bytes ≤ change_size * rows

  -- either of two
  alike_if : (b : Bool) (x x' y y' : Told) → Alike x x' → Alike y y' → Alike (cond b x y) (cond b x' y')
  alike_if true x x' y y' p q = p
  alike_if false x x' y y' p q = q

  pub alike_tell : (W : Worker) (r : Reply) (bytes : List ℕ) → Fits rows W.board → length bytes ≤ change_size * rows → Alike (tell W r bytes) (tell (roomed n W) r bytes)
  alike_tell W r bytes f few = record { fits = f; left_same = refl; reply_same = refl; bytes_same = refl; bytes_few = few }

  -- the round that was worked out is not told
  alike_worked : (T T' : Told) (R R' : Round) → Alike T T' → Alike (worked T R) (worked T' R')
  alike_worked T T' R R' a = record { fits = a.fits; left_same = a.left_same; reply_same = a.reply_same; bytes_same = a.bytes_same; bytes_few = a.bytes_few }

  alike_ask : (W : Worker) → Fits rows W.board → (p : Phase) (r : Reply) → Alike (asks W p r) (asks (roomed n W) p r)
  alike_ask W f p r = alike_tell (phased W p) r [] f (omega arith)

  -- ---- the end, and a connection that is lost

  module _ (W : Worker) (f : Fits rows W.board) where
    alike_failing : (p : Phase) → Alike (failing W p) (failing (roomed n W) p)
    alike_failing p =
        alike_tell (phased (without_writes W) p) _ (tag_bytes (queued_tags W.board)) (fits_queue rows W.board f [] (omega arith)) (queued_few rows W.board f)

    alike_ended : Alike (ended W) (ended (roomed n W))
    alike_ended =
        alike_tell (phased (stated (without_writes W) AtStop) Stopped) _ (tag_bytes (queued_tags W.board)) (fits_queue rows W.board f [] (omega arith)) (queued_few rows W.board f)

    alike_backing_off : Alike (backing_off W) (backing_off (roomed n W))
    alike_backing_off = alike_tell _ _ [] f (omega arith)

    alike_disconnected : Alike (disconnected W) (disconnected (roomed n W))
    unfolding disconnected
    alike_disconnected = alike_if (is_state W.head.link Disconnected) _ _ _ _ alike_backing_off (alike_tell _ _ [] f (omega arith))

    alike_top : Alike (top W) (top (roomed n W))
    unfolding top
    alike_top = alike_if W.head.link.stopping _ _ _ _ alike_ended (alike_ask W f Connect reply.connect)

  alike_staling : (W : Worker) → Fits rows W.board → Alike (staling W) (staling (roomed n W))
  unfolding staling
  alike_staling W f =
      let C = staled_in W.board in
      let next = with_board W C.board in
      let g = stale_fits rows W.board f in
      rw (stale_same rows W.board f n)
      (alike_if (is_empty C.changes) _ _ _ _ (alike_disconnected next g)
      (alike_tell (phased next StaleTold) _ _ g (changes_few rows W.board f C.board.table.tags C.changes (stale_few rows W.board f))))

  alike_down : (W : Worker) → Fits rows W.board → Alike (down W) (down (roomed n W))
  unfolding down
  alike_down W f = alike_if W.head.link.stopping _ _ _ _ (alike_ended W f) (alike_if (is_empty W.board.queue) _ _ _ _ (alike_staling W f) (alike_failing W f FailedTold))

  -- ---- rounds, and the writes behind them

  module _ (at : At) where
    alike_polls : (W : Worker) → Fits rows W.board → Alike (polls W) (polls (roomed n W))
    alike_polls W f = alike_tell W _ [] f (omega arith)

    alike_waiting : (W : Worker) → Fits rows W.board → Alike (waiting W at) (waiting (roomed n W) at)
    alike_waiting W f = alike_ask W f Wait _

    alike_idle : (W : Worker) → Fits rows W.board → Alike (idle W at) (idle (roomed n W) at)
    unfolding idle
    alike_idle W f = alike_if (le (remaining W at) (rounded binary64 false 1 10000)) _ _ _ _ (alike_polls W f) (alike_waiting W f)

    alike_tail : (W : Worker) → Fits rows W.board → Alike (tail W at) (tail (roomed n W) at)
    unfolding tail
    alike_tail W f =
        let next = tallied W (tail_stats W.head.stats (elapsed W at) W.head.progress.tick at.wall) in
        alike_if (le (elapsed W at) W.head.progress.tick) _ _ _ _ (alike_idle next f) (alike_polls next f)

    alike_resume : (W : Worker) → Fits rows W.board → (a : After) → Alike (resume W at a) (resume (roomed n W) at a)
    unfolding resume
    alike_resume W f Tail = alike_tail W f
    alike_resume W f Idle = alike_idle W f
    alike_resume W f End = alike_ended W f

    alike_writing_of : (W : Worker) → Fits rows W.board → (a : After) (p : Option Queued) → Alike (writing_of W at a p) (writing_of (roomed n W) at a p)
    unfolding writing_of
    alike_writing_of W f a None = alike_resume W f a
    alike_writing_of W f a (Some w) =
        alike_tell _ _ [] (fits_queue rows W.board f (rest W.board.queue) (omega (arith, length-drop 1 W.board.queue, f.queue_few))) (omega arith)

    alike_writing : (W : Worker) → Fits rows W.board → (a : After) → Alike (writing W at a) (writing (roomed n W) at a)
    alike_writing W f a = alike_writing_of W f a (popped W.board.queue)

    alike_checking : (W : Worker) → Fits rows W.board → Alike (checking W at) (checking (roomed n W) at)
    unfolding checking
    alike_checking W f = alike_if W.head.progress.boundary _ _ _ _ (alike_ask W f AskVersion reply.version) (alike_writing W f Tail)

    alike_reading : (W : Worker) → Fits rows W.board → Alike (reading W at) (reading (roomed n W) at)
    unfolding reading
    alike_reading W f =
        let B = describing W.board in
        let next = tallied (with_board W B) (read_stats W.head.stats (length W.board.asked)) in
        let g = describing_fits rows W.board f in
        alike_if (is_empty B.asked) _ _ _ _ (alike_checking next g) (alike_tell (phased next Describe) _ _ g (tags_few rows B g B.asked g.asked_few))

    -- Rule 6: a round
    module _ (W : Worker) (f : Fits rows W.board) (l : Listed W.board.table) where
      abbrev B : Board
      B = W.board

      abbrev R : Round
      R = round_at W at

      abbrev o : Options
      o = W.head.options

      abbrev P : Polling
      P = polling_of B W.head.cycle

      abbrev less : ℕ → ℕ → Bool
      less = by_keys B.keys

      -- there is room for all of its list
      round_few : length R.list ≤ rows
      round_few = list_few less rows n o P at.clock l f.table_fits f.groups_fit

      enough : rows ≤ R.after.table.room
      enough = room_enough less rows n o P at.clock l f.table_fits f.groups_fit

      worked_fits : Fits rows (with_worked W at R).board
      worked_fits = record {
        table_fits = round_fits less rows n o P at.clock l f.table_fits f.groups_fit;
        groups_fit = groups_fit less rows n o P at.clock l f.table_fits f.groups_fit;
        named = f.named;
        asked_few = omega (arith, round_few, length-take R.after.table.room R.list);
        queue_few = f.queue_few;
        some = f.some;
      }

      alike_polled : (R' : Round) → R'.tick ≡ R.tick → R'.boundary ≡ R.boundary → R'.after ≡ polling_roomed n R.after → R'.list ≡ R.list → Alike (polled W at R) (polled (roomed n W) at R')
      unfolding polled
      alike_polled R' a b c d =
          let next = with_worked W at R in
          let asked = next.board.asked in
          let same : take (R.after.table.room + n) R.list ≡ take R.after.table.room R.list =
          cut_same (R.after.table.room + n) R.after.table.room R.list (omega (arith, round_few, enough)) (omega (arith, round_few, enough))
          in
          rw (a, b, c, d, same)
          (alike_worked _ _ R _
          (alike_if (is_empty asked) _ _ _ _ (alike_reading next worked_fits) (alike_tell (phased next Read) _ (tag_bytes asked) worked_fits (tags_few rows B f asked worked_fits.asked_few))))

      alike_poll : Alike (poll W at) (poll (roomed n W) at)
      unfolding poll
      alike_poll =
          alike_if W.head.link.stopping _ _ _ _ (alike_writing W f End)
          (alike_polled (round_at (roomed n W) at)
          (tick_same less rows n o P at.clock l f.table_fits f.groups_fit)
          (boundary_same less rows n o P at.clock l f.table_fits f.groups_fit)
          (after_same less rows n o P at.clock l f.table_fits f.groups_fit)
          (list_same less rows n o P at.clock l f.table_fits f.groups_fit))

    -- what T' tells, in terms of T
    told_same : (T T' : Told) → Alike T T' → T' ≡ record { left = roomed n T.left; reply = T.reply; bytes = T.bytes; round = T'.round }
    told_same T T' a =
        let t : Worker → Reply → List ℕ → Told = λ W r bytes. record { left = W; reply = r; bytes = bytes; round = T'.round } in
        ap (λ (W : Worker). t W T'.reply T'.bytes) a.left_same ∙ ap (λ (r : Reply). t (roomed n T.left) r T'.bytes) a.reply_same ∙ ap (λ (l : List ℕ). t (roomed n T.left) T.reply l) a.bytes_same

    alike_lastly : (T T' : Told) → Alike T T' → Alike (lastly T at) (lastly T' at)
    alike_lastly T T' a =
        let w = alike_waiting T.left a.fits in
        let x : Alike (record { left = (waiting T.left at).left; reply = (waiting T.left at).reply; bytes = []; round = T.round }) (record { left = (waiting (roomed n T.left) at).left; reply = (waiting (roomed n T.left) at).reply; bytes = []; round = T'.round })
        = record { fits = w.fits; left_same = w.left_same; reply_same = w.reply_same; bytes_same = refl; bytes_few = omega arith } in
        rw (told_same T T' a) (alike_if (goes_on T) _ _ T _ x (record { fits = a.fits; left_same = refl; reply_same = refl; bytes_same = refl; bytes_few = a.bytes_few }))

    pub alike_finished : (T T' : Told) → Alike T T' → Listed T.left.board.table → Alike (finished T at) (finished T' at)
    unfolding finished
    alike_finished T T' a l =
        rw (told_same T T' a)
        (alike_if (goes_on T) _ _ T _ (alike_lastly (poll T.left at) (poll (roomed n T.left) at) (alike_poll T.left a.fits l))
        (record { fits = a.fits; left_same = refl; reply_same = refl; bytes_same = refl; bytes_few = a.bytes_few }))

  -- ---- answers

  alike_connected : (W : Worker) → Fits rows W.board → Alike (connected W) (connected (roomed n W))
  unfolding connected
  alike_connected W f = alike_if (is_state W.head.link Connected) _ _ _ _ (alike_tell (linked W (with_attempt W.head.link 0)) _ [] f (omega arith)) (alike_tell _ _ [] f (omega arith))

  alike_reconnecting : (W : Worker) → Fits rows W.board → Alike (reconnecting W) (reconnecting (roomed n W))
  unfolding reconnecting
  alike_reconnecting W f = alike_if (is_state W.head.link Connecting) _ _ _ _ (alike_top (tallied W (reconnected W.head.stats)) f) (alike_tell _ _ [] f (omega arith))

  alike_opened : (W : Worker) → Fits rows W.board → Alike (opened W) (opened (roomed n W))
  unfolding opened
  alike_opened W f = alike_if (is_empty W.board.queue) _ _ _ _ (alike_ask W f OpenVersion reply.version) (alike_failing W f OpenFailedTold)

  -- check 14 has let the settings in
  fits_versioned : (W : Worker) → Fits rows W.board → (connecting : Bool) (a : Answer) → settings_ok W.head.count a.list ≡ true → Fits rows (versioned W connecting a).board
  fits_versioned W f connecting a ok =
      let old = W.head.link.version in
      let T = W.board.table in
      fits_records rows W.board f _ (version-graces old (number_of a.kind) connecting a.list T.words T.tags)
      (numbered_version W.head.count a.list ok old (number_of a.kind) connecting T.words T.tags f.table_fits.numbered)

  alike_open_version : (W : Worker) → Fits rows W.board → (a : Answer) → settings_ok W.head.count a.list ≡ true → Alike (open_version W a) (open_version (roomed n W) a)
  unfolding open_version
  alike_open_version W f a ok =
      let g = fits_versioned W f true a ok in
      alike_if (is_reloaded W.head.link.version (number_of a.kind)) _ _ _ _ (alike_tell _ _ [] g (omega arith)) (alike_connected (versioned W true a) g)

  alike_round-version : (W : Worker) → Fits rows W.board → (at : At) (a : Answer) → settings_ok W.head.count a.list ≡ true → Alike (round_version W at a) (round_version (roomed n W) at a)
  unfolding round_version
  alike_round-version W f at a ok =
      let g = fits_versioned W f false a ok in
      alike_if (is_reloaded W.head.link.version (number_of a.kind)) _ _ _ _ (alike_tell _ _ [] g (omega arith)) (alike_writing at (versioned W false a) g Tail)

  alike_results : (W : Worker) → Fits rows W.board → (at : At) (a : Answer) → Alike (results W at a) (results (roomed n W) at a)
  unfolding results
  alike_results W f at a =
      let start = W.head.progress.start in
      let C = applied_to W.board a.list start at.wall true in
      let next = with_board W C.board in
      let g = applied_fits rows W.board f a.list start at.wall true in
      rw (applied_same rows W.board f a.list start at.wall true n)
      (alike_if (is_lost a.kind) _ _ _ _ (alike_down W f)
      (alike_if (is_empty C.changes) _ _ _ _ (alike_reading at next g)
      (alike_tell (phased next ValuesTold) _ _ g (changes_few rows W.board f C.board.table.tags C.changes (applied_few rows W.board f a.list start at.wall true)))))

  -- either of two
  cond_known : (b : Bool) (x y : List Tag) (P : List Tag → Type 0) → P x → P y → P (cond b x y)
  cond_known true x y P p q = p
  cond_known false x y P p q = q

  alike_descriptions : (W : Worker) → Fits rows W.board → (a : Answer) → Alike (descriptions W a) (descriptions (roomed n W) a)
  unfolding descriptions
  alike_descriptions W f a =
      let B = W.board in
      let tags = B.table.tags in
      let known = cond (is_descriptions a.kind) (learnt a.list B.asked tags) (learnt_none B.asked tags) in
      let found = take (found_count a.list) B.asked in
      let none : ℕ → Description = λ i. NoDescription in
      let e : map is_graced known ≡ map is_graced tags = cond_known (is_descriptions a.kind) _ _ (λ (l : List Tag). map is_graced l ≡ map is_graced tags)
      (known_kept is_graced (λ x d. refl) (found_in a.list) 0 found tags) (known_kept is_graced (λ x d. refl) none 0 B.asked tags) in
      let s : map settings_of known ≡ map settings_of tags = cond_known (is_descriptions a.kind) _ _ (λ (l : List Tag). map settings_of l ≡ map settings_of tags)
      (known_kept settings_of (λ x d. refl) (found_in a.list) 0 found tags) (known_kept settings_of (λ x d. refl) none 0 B.asked tags) in
      alike_tell (phased (with_board W (with_records B known)) InfoTold) _ (tag_bytes B.asked) (fits_records rows B f known e (numbered_same known tags s f.table_fits.numbered))
      (tags_few rows B f B.asked f.asked_few)

  -- a tag and its word fit
  back_same : (W : Worker) → Fits rows W.board → (k : ℕ)
      → take (W.board.table.room + n) (read_back_tags W.board.table.words k) ≡ take W.board.table.room (read_back_tags W.board.table.words k)
  back_same W f k =
      let t = f.table_fits in
      let room = W.board.table.room in
      let few : length (read_back_tags W.board.table.words k) ≤ room = omega (arith, t.backs k, t.graced.enough, t.long) in
      cut_same (room + n) room (read_back_tags W.board.table.words k) (omega (arith, few)) few

  alike_written_as : (W : Worker) → Fits rows W.board → (k : Kind) → Alike (written_as W k) (written_as (roomed n W) k)
  alike_written_as W f kind.Written =
      let B = W.board in
      let k = W.head.progress.tag in
      let asked = take B.table.room (read_back_tags B.table.words k) in
      let few : length asked ≤ rows = omega (arith, length-take B.table.room (read_back_tags B.table.words k), f.table_fits.backs k) in
      rw (back_same W f k)
      (alike_tell (phased (with_board W (with_asked B asked)) ReadBack) _ (tag_bytes asked) (fits_asked rows B f asked few) (tags_few rows B f asked few))
  alike_written_as W f (kind.Refused error message) = alike_ask W f RefusedTold _
  alike_written_as W f k = alike_ask W f LostTold _

  alike_written : (W : Worker) → Fits rows W.board → (a : Answer) → Alike (written W a) (written (roomed n W) a)
  unfolding written
  alike_written W f a = alike_written_as W f a.kind

  alike_read-back : (W : Worker) → Fits rows W.board → (a : Answer) → Alike (read_back W a) (read_back (roomed n W) a)
  unfolding read_back
  alike_read-back W f a =
      let B = W.board in
      let few = length-take (result_count a.list) B.asked in
      let g : Fits rows (with_asked B (take (result_count a.list) B.asked)) = fits_asked rows B f _ (omega (arith, few, f.asked_few)) in
      alike_if (is_lost a.kind) _ _ _ _ (alike_ask W f LostTold _)
      (alike_tell (phased (with_board W (kept_back B a.list)) OutcomeTold) _ []
      (record { table_fits = g.table_fits; groups_fit = g.groups_fit; named = g.named; asked_few = g.asked_few; queue_few = g.queue_few; some = g.some }) (omega arith))

  alike_back_applied : (W : Worker) → Fits rows W.board → (at : At) → Alike (back_applied W at) (back_applied (roomed n W) at)
  unfolding back_applied
  alike_back_applied W f at =
      let B = W.board in
      let C = applied_to B B.back at.clock at.wall false in
      let next = with_board W C.board in
      let g = applied_fits rows B f B.back at.clock at.wall false in
      rw (applied_same rows B f B.back at.clock at.wall false n)
      (alike_if (is_empty C.changes) _ _ _ _ (alike_writing at next g W.head.progress.after)
      (alike_tell (phased next BackTold) _ _ g (changes_few rows B f C.board.table.tags C.changes (applied_few rows B f B.back at.clock at.wall false))))

  alike_waited : (W : Worker) → Fits rows W.board → (at : At) → Alike (waited W at) (waited (roomed n W) at)
  unfolding waited
  alike_waited W f at = alike_writing at W f _

  alike_backed_off : (W : Worker) → Fits rows W.board → Alike (backed_off W) (backed_off (roomed n W))
  unfolding backed_off
  alike_backed_off W f = alike_if W.head.link.stopping _ _ _ _ (alike_ended W f) (alike_reconnecting W f)

  alike_connect_answered : (W : Worker) → Fits rows W.board → (a : Answer) → Alike (connect_answered W a) (connect_answered (roomed n W) a)
  alike_connect_answered W f a = alike_if (is_opened a.kind) _ _ _ _ (alike_opened W f) (alike_down W f)

  alike_taken : (p : Phase) (W : Worker) → Fits rows W.board → (at : At) → Alike (taken p W at) (taken p (roomed n W) at)
  unfolding taken
  alike_taken Begin W f at = alike_top W f
  alike_taken Connect W f at = alike_top W f
  alike_taken OpenVersion W f at = alike_top W f
  alike_taken AskVersion W f at = alike_top W f
  alike_taken Read W f at = alike_top W f
  alike_taken Describe W f at = alike_top W f
  alike_taken AskWrite W f at = alike_top W f
  alike_taken ReadBack W f at = alike_top W f
  alike_taken Wait W f at = alike_top W f
  alike_taken Backoff W f at = alike_top W f
  alike_taken OpenFailedTold W f at = alike_ask W f OpenVersion reply.version
  alike_taken OpenMetaTold W f at = alike_connected W f
  alike_taken ConnectedTold W f at = alike_polls at W f
  alike_taken MetaTold W f at = alike_writing at W f Tail
  alike_taken ValuesTold W f at = alike_reading at W f
  alike_taken InfoTold W f at = alike_checking at W f
  alike_taken RefusedTold W f at = alike_writing at W f W.head.progress.after
  alike_taken LostTold W f at = alike_down W f
  alike_taken OutcomeTold W f at = alike_back_applied W f at
  alike_taken BackTold W f at = alike_writing at W f W.head.progress.after
  alike_taken FailedTold W f at = alike_staling W f
  alike_taken StaleTold W f at = alike_disconnected W f
  alike_taken DisconnectedTold W f at = alike_backing_off W f
  alike_taken ConnectingTold W f at = alike_top W f
  alike_taken Stopped W f at = alike_top W f

  pub alike_handled : (p : Phase) (W : Worker) → Fits rows W.board → (at : At) (a : Answer) → answers (awaited p) a.kind ≡ true → contents W a ≡ 0 → Alike (handled p W at a) (handled p (roomed n W) at a)
  unfolding handled answers awaited
  alike_handled Begin W f at a k e = alike_top W f
  alike_handled Connect W f at a k e = alike_connect_answered W f a
  alike_handled OpenVersion W f at a k e = alike_open_version W f a (settings_met W a k e)
  alike_handled AskVersion W f at a k e = alike_round-version W f at a (settings_met W a k e)
  alike_handled Read W f at a k e = alike_results W f at a
  alike_handled Describe W f at a k e = alike_descriptions W f a
  alike_handled AskWrite W f at a k e = alike_written W f a
  alike_handled ReadBack W f at a k e = alike_read-back W f a
  alike_handled Wait W f at a k e = alike_waited W f at
  alike_handled Backoff W f at a k e = alike_backed_off W f
  alike_handled OpenFailedTold W f at a k e = alike_taken OpenFailedTold W f at
  alike_handled OpenMetaTold W f at a k e = alike_taken OpenMetaTold W f at
  alike_handled ConnectedTold W f at a k e = alike_taken ConnectedTold W f at
  alike_handled MetaTold W f at a k e = alike_taken MetaTold W f at
  alike_handled ValuesTold W f at a k e = alike_taken ValuesTold W f at
  alike_handled InfoTold W f at a k e = alike_taken InfoTold W f at
  alike_handled RefusedTold W f at a k e = alike_taken RefusedTold W f at
  alike_handled LostTold W f at a k e = alike_taken LostTold W f at
  alike_handled OutcomeTold W f at a k e = alike_taken OutcomeTold W f at
  alike_handled BackTold W f at a k e = alike_taken BackTold W f at
  alike_handled FailedTold W f at a k e = alike_taken FailedTold W f at
  alike_handled StaleTold W f at a k e = alike_taken StaleTold W f at
  alike_handled DisconnectedTold W f at a k e = alike_taken DisconnectedTold W f at
  alike_handled ConnectingTold W f at a k e = alike_taken ConnectingTold W f at
  alike_handled Stopped W f at a k e = alike_taken Stopped W f at
