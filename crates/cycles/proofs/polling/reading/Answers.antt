-- `cycles::polling::reading` meets its contract.
use mathlib.Core.Path.{◌≡◌, ap, sym, ◌∙◌}
use mathlib.Core.Bool.{Bool, true, false, cond, false≢true}
use mathlib.Core.List.{List}
use Rattle.board.specs.Board.{Board, board_in}
use Rattle.descriptions.specs.Descriptions.{describing}
use Prim.Native.Nat.{ℕ}
use lib.ListN.{length}
use Rattle.lent.specs.Lent.{tag_bytes, wrote_all}
use Rattle.heads.specs.Stats.{read_stats}
use Rattle.heads.specs.declared.progress.Phase.TheVariants.{Describe}
use Rattle.engine.specs.Engine.{with_stats}
use Rattle.engine.specs.declared.Engine.{Engine}
use Rattle.replies.specs.declared.response.Response.TheVariants.{GoOn}
use Rattle.replies.specs.declared.response.Said.{Said}
use Rattle.replies.specs.Reply as reply
use Rattle.replies.specs.Reply.{reply_of}
use Rattle.replies.specs.Worker.{Worker, worker, tell, phased, said_in}
use Rattle.replies.specs.Losing.{is_empty}
use Rattle.replies.proofs.DoneLaws.{done_is}
use Rattle.replies.proofs.EmptyLaws.{empty_is, some_is}
use Rattle.cycles.specs.Polling.{checking, reading}
use Rattle.cycles.proofs.polling.reading.Goals as goal

pub returns-then-asked_count-eq0 : goal.returns-then-asked_count-eq0
unfolding reading
returns-then-asked_count-eq0 c =
    let a = c.args in
    let B = board_in a.board.now in
    let W = worker a.e B in
    let t = a.at in
    let d = c.ask_descriptions in
    let D = describing B in
    let stats = read_stats a.e.stats (length B.asked) in
    let next : c.with_stats-next.result ≡ with_stats a.e stats =
    c.with_stats-next.ensures ∙ ap (with_stats a.e) (c.read_stats.ensures ∙ ap (read_stats a.e.stats) c.asked_count-tags.ensures) in
    let left : worker c.with_stats-next.result (board_in d.new.b) ≡ worker (with_stats a.e stats) D =
    ap (λ (e : Engine). worker e (board_in d.new.b)) next ∙ ap (worker (with_stats a.e stats)) d.ensures.board in
    let asked : (board_in d.new.b).asked ≡ D.asked = ap (λ (X : Board). X.asked) d.ensures.board in
    let count : c.asked_count.result ≡ length D.asked = c.asked_count.ensures ∙ ap (length {A = ℕ}) asked in
    let after = worker (with_stats a.e stats) D in
    let told = tell (phased after Describe) (reply.describe (length D.asked)) (tag_bytes D.asked) in
    let y = c.checking in
    let test : is_empty D.asked ≡ true = empty_is {A = ℕ} D.asked (sym count ∙ c.if-asked_count-eq0.true) in
    let so_far = worker c.with_stats-next.result (board_in d.new.b) in
    done_is (checking so_far t) (reading W t) y.result y.new.board a.out.now y.new.out
    (ap (λ (X : Worker). checking X t) left ∙ sym (ap (λ (b : Bool). cond b (checking after t) told) test))
    y.ensures

pub returns : goal.returns
unfolding reading
returns c =
    let a = c.args in
    let B = board_in a.board.now in
    let W = worker a.e B in
    let t = a.at in
    let d = c.ask_descriptions in
    let D = describing B in
    let stats = read_stats a.e.stats (length B.asked) in
    let next : c.with_stats-next.result ≡ with_stats a.e stats =
    c.with_stats-next.ensures ∙ ap (with_stats a.e) (c.read_stats.ensures ∙ ap (read_stats a.e.stats) c.asked_count-tags.ensures) in
    let left : worker c.with_stats-next.result (board_in d.new.b) ≡ worker (with_stats a.e stats) D =
    ap (λ (e : Engine). worker e (board_in d.new.b)) next ∙ ap (worker (with_stats a.e stats)) d.ensures.board in
    let asked : (board_in d.new.b).asked ≡ D.asked = ap (λ (X : Board). X.asked) d.ensures.board in
    let count : c.asked_count.result ≡ length D.asked = c.asked_count.ensures ∙ ap (length {A = ℕ}) asked in
    let after = worker (with_stats a.e stats) D in
    let told = tell (phased after Describe) (reply.describe (length D.asked)) (tag_bytes D.asked) in
    let p = c.put_asked-n in
    let test : is_empty D.asked ≡ false = some_is {A = ℕ} D.asked (λ e. c.if-asked_count-eq0.false (count ∙ e)) in
    done_is told (reading W t) c.phased.result d.new.b a.out.now p.new.out (sym (ap (λ (b : Bool). cond b (checking after t) told) test))
    (record {
      head_is = ap (λ (s : Said). s.head) c.phased.ensures ∙ ap (λ (e : Engine). (said_in e Describe GoOn).head) next;
      board_is = d.ensures.board;
      reply_is = ap (λ (s : Said). reply_of s.response) c.phased.ensures ∙ (ap reply.describe (p.ensures.0 ∙ ap (length {A = ℕ}) asked));
      out_is = p.ensures.1 ∙ ap (λ (l : List ℕ). wrote_all a.out.now (tag_bytes l)) asked;
      silent = λ h. absurd (false≢true h);
    })
