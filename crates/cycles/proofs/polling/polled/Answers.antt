-- `cycles::polling::polled` meets its contract.
use mathlib.Core.Path.{◌≡◌, ap, sym, ◌∙◌}
use mathlib.Core.Bool.{Bool, true, false, cond, false≢true}
use mathlib.Core.List.{List}
use Rattle.board.specs.Board.{Board, board_in}
use Prim.Native.Nat.{ℕ}
use lib.Ieee.{Float}
use lib.ListN.{length}
use Rattle.lent.specs.Lent.{tag_bytes, wrote_all}
use Rattle.heads.specs.Progress.{with_round}
use Rattle.heads.specs.declared.progress.Phase.TheVariants.{Read}
use Rattle.engine.specs.Engine.{with_cycle, with_progress}
use Rattle.engine.specs.declared.Engine.{Engine}
use Rattle.replies.specs.declared.response.Response.TheVariants.{GoOn}
use Rattle.replies.specs.declared.response.Said.{Said}
use Rattle.replies.specs.Reply as reply
use Rattle.replies.specs.Reply.{reply_of}
use Rattle.replies.specs.Worker.{Worker, worker, tell, phased, said_in}
use Rattle.replies.specs.Losing.{is_empty}
use Rattle.replies.proofs.DoneLaws.{done_is}
use Rattle.replies.proofs.EmptyLaws.{empty_is, some_is}
use Rattle.cycles.specs.Polling.{reading, round_at, with_worked, polled}
use Rattle.cycles.proofs.PollingLaws.{worked_done}
use Rattle.cycles.proofs.polling.polled.Goals as goal

pub reading-requires : goal.reading-requires
reading-requires c = c.cycle_tags-w.ensures.holds.still

pub returns-then-asked_count-eq0 : goal.returns-then-asked_count-eq0
unfolding polled
returns-then-asked_count-eq0 c =
    let a = c.args in
    let B = board_in a.board.now in
    let W = worker a.e B in
    let t = a.at in
    let R = round_at W t in
    let p = c.cycle_tags-w in
    let cycled = with_cycle a.e R.after.cycle in
    let round = with_round a.e.progress a.at.clock R.tick R.boundary in
    let next : c.with_progress-next.result ≡ with_progress cycled round =
    c.with_progress-next.ensures
    ∙ (ap (λ (e : Engine). with_progress e c.with_round-progress.result) (c.with_cycle.ensures ∙ ap (with_cycle a.e) p.ensures.cycle_is)
    ∙ ap (with_progress cycled) (c.with_round-progress.ensures
    ∙ (ap (λ (x : Float). with_round a.e.progress a.at.clock x p.result.boundary) p.ensures.tick_is ∙ ap (with_round a.e.progress a.at.clock R.tick) p.ensures.boundary_is))) in
    let after = with_worked W t R in
    let list = after.board.asked in
    let left : worker c.with_progress-next.result (board_in p.new.b) ≡ after =
    ap (λ (e : Engine). worker e (board_in p.new.b)) next ∙ ap (worker (with_progress cycled round)) p.ensures.holds.board in
    let asked : (board_in p.new.b).asked ≡ list = ap (λ (X : Board). X.asked) p.ensures.holds.board in
    let count : c.asked_count.result ≡ length list = c.asked_count.ensures ∙ ap (length {A = ℕ}) asked in
    let told = tell (phased after Read) (reply.read (length list)) (tag_bytes list) in
    let so_far = worker c.with_progress-next.result (board_in p.new.b) in
    let y = c.reading in
    let test : is_empty list ≡ true = empty_is {A = ℕ} list (sym count ∙ c.if-asked_count-eq0.true) in
    let inner = cond (is_empty list) (reading after t) told in
    worked_done inner R y.result y.new.board a.out.now y.new.out
    (done_is (reading so_far t) inner y.result y.new.board a.out.now y.new.out
    (ap (λ (X : Worker). reading X t) left ∙ sym (ap (λ (b : Bool). cond b (reading after t) told) test))
    y.ensures)

pub put_asked-n-requires : goal.put_asked-n-requires
put_asked-n-requires c = c.cycle_tags-w.ensures.holds.still

pub shape_of-board : goal.shape_of-board
shape_of-board c = c.cycle_tags-w.auto.b

pub returns : goal.returns
unfolding polled
returns c =
    let a = c.args in
    let B = board_in a.board.now in
    let W = worker a.e B in
    let t = a.at in
    let R = round_at W t in
    let p = c.cycle_tags-w in
    let cycled = with_cycle a.e R.after.cycle in
    let round = with_round a.e.progress a.at.clock R.tick R.boundary in
    let next : c.with_progress-next.result ≡ with_progress cycled round =
    c.with_progress-next.ensures
    ∙ (ap (λ (e : Engine). with_progress e c.with_round-progress.result) (c.with_cycle.ensures ∙ ap (with_cycle a.e) p.ensures.cycle_is)
    ∙ ap (with_progress cycled) (c.with_round-progress.ensures
    ∙ (ap (λ (x : Float). with_round a.e.progress a.at.clock x p.result.boundary) p.ensures.tick_is ∙ ap (with_round a.e.progress a.at.clock R.tick) p.ensures.boundary_is))) in
    let after = with_worked W t R in
    let list = after.board.asked in
    let left : worker c.with_progress-next.result (board_in p.new.b) ≡ after =
    ap (λ (e : Engine). worker e (board_in p.new.b)) next ∙ ap (worker (with_progress cycled round)) p.ensures.holds.board in
    let asked : (board_in p.new.b).asked ≡ list = ap (λ (X : Board). X.asked) p.ensures.holds.board in
    let count : c.asked_count.result ≡ length list = c.asked_count.ensures ∙ ap (length {A = ℕ}) asked in
    let told = tell (phased after Read) (reply.read (length list)) (tag_bytes list) in
    let q = c.put_asked-n in
    let test : is_empty list ≡ false = some_is {A = ℕ} list (λ e. c.if-asked_count-eq0.false (count ∙ e)) in
    let inner = cond (is_empty list) (reading after t) told in
    worked_done inner R c.phased.result p.new.b a.out.now q.new.out
    (done_is told inner c.phased.result p.new.b a.out.now q.new.out (sym (ap (λ (b : Bool). cond b (reading after t) told) test))
    (record {
      head_is = ap (λ (s : Said). s.head) c.phased.ensures ∙ ap (λ (e : Engine). (said_in e Read GoOn).head) next;
      board_is = p.ensures.holds.board;
      reply_is = ap (λ (s : Said). reply_of s.response) c.phased.ensures ∙ (ap reply.read (q.ensures.0 ∙ ap (length {A = ℕ}) asked));
      out_is = q.ensures.1 ∙ ap (λ (l : List ℕ). wrote_all a.out.now (tag_bytes l)) asked;
      silent = λ h. absurd (false≢true h);
    }))
