-- What a step goes on to: writes that wait, and a step that is finished.
use mathlib.Core.Path.{◌≡◌, refl, ap, sym, ◌∙◌, subst}
use mathlib.Core.Bool.{Bool, true, false, cond, true≢false}
use mathlib.Core.List.{List, [], ◌∷◌}
use Prim.Native.Nat.{ℕ}
use Rattle.std.specs.Prelude.{eqb, Option, Some, None}
use Rattle.lent.specs.Lent.{wrote_all}
use Rattle.rounds.specs.Round.{Round}
use Rattle.queue.specs.Queue.{popped, rest}
use Rattle.queue.specs.declared.Write.{Write}
use Rattle.board.specs.Board.{Board, board_in, with_queue}
use Rattle.replies.specs.declared.reply.Reply.{Reply}
use Rattle.replies.specs.Reply.{reply_of}
use Rattle.replies.specs.declared.response.Response.{Response}
use Rattle.replies.specs.declared.response.Response.TheVariants.{GoOn}
use Rattle.replies.specs.declared.response.Said.{Said}
use Rattle.replies.specs.declared.at.At.{At}
use Rattle.replies.specs.Worker.{Worker, Told, worker, Done, Quietly, goes_on}
use Rattle.replies.proofs.DoneLaws.{done_is, wrote_nothing}
use Rattle.replies.proofs.ReplyLaws.{something}
use Rattle.cycles.specs.Polling.{worked, waiting, poll, lastly, finished}

abbrev pub is_nothing : Option Write → Bool
is_nothing None = true
is_nothing (Some w) = false

-- a pop of an empty queue leaves the board as it is
pub none_popped : (B : Board) → popped B.queue ≡ None → with_queue B (rest B.queue) ≡ B
none_popped B e = ap (with_queue B) (same B.queue e)
  where
    same : (q : List Write) → popped q ≡ None → rest q ≡ q
    same [] h = refl
    same (w ∷ ws) h = absurd (true≢false (sym (ap is_nothing h)))

-- the round that was worked out is no part of what was done
pub worked_done : (T : Told) (R : Round) (s : Said) (board' out out' : List ℕ) → Done T s board' out out' → Done (worked T R) s board' out out'
worked_done T R s board' out out' d = record {
  head_is = d.head_is;
  board_is = d.board_is;
  reply_is = d.reply_is;
  out_is = d.out_is;
  silent = d.silent;
}

-- what was said is something, or that nothing is told yet
tells : (T : Told) (s : Said) (board before out : List ℕ) → (s.response ≡ GoOn → ⊥) → Done T s board before out → goes_on T ≡ false
tells T s board before out n d = ap (λ (r : Reply). eqb r.kind 0) (sym d.reply_is) ∙ something s.response n

goes : (T : Told) (s : Said) (board before out : List ℕ) → s.response ≡ GoOn → Done T s board before out → goes_on T ≡ true
goes T s board before out k d = ap (λ (r : Reply). eqb r.kind 0) (sym d.reply_is) ∙ ap (λ (r : Response). eqb (reply_of r).kind 0) k

-- what was said stands
pub stands : (T : Told) (t : At) (s : Said) (board before out : List ℕ) → (s.response ≡ GoOn → ⊥) → Done T s board before out → Done (finished T t) s board before out
unfolding finished
stands T t s board before out n d =
    let no : goes_on T ≡ false = tells T s board before out n d in
    done_is T (cond (goes_on T) (lastly (poll T.left t) t) T) s board before out (sym (ap (λ (b : Bool). cond b (lastly (poll T.left t) t) T) no)) d

-- where nothing is told yet, nothing was written
pub unwritten : (T : Told) (s : Said) (board before out : List ℕ) → s.response ≡ GoOn → Done T s board before out → out ≡ before
unwritten T s board before out k d =
    let yes : goes_on T ≡ true = goes T s board before out k d in
    d.out_is ∙ (ap (wrote_all before) (d.silent yes) ∙ wrote_nothing before)

-- the engine that is left
pub left_is : (T : Told) (s : Said) (board before out : List ℕ) → Done T s board before out → worker s.head (board_in board) ≡ T.left
left_is T s board before out d = simp (d.head_is, d.board_is)

-- a round is worked out, and what it comes to is the end of the step
pub goes_on_lem : (T : Told) (t : At) (s r : Said) (board board' before out out' : List ℕ)
    → s.response ≡ GoOn → Done T s board before out
    → Done (lastly (poll (worker s.head (board_in board)) t) t) r board' out out'
    → Done (finished T t) r board' before out'
unfolding finished
goes_on_lem T t s r board board' before out out' k d p =
    let yes : goes_on T ≡ true = goes T s board before out k d in
    let e : lastly (poll (worker s.head (board_in board)) t) t ≡ cond (goes_on T) (lastly (poll T.left t) t) T =
    ap (λ (W : Worker). lastly (poll W t) t) (left_is T s board before out d) ∙ sym (ap (λ (b : Bool). cond b (lastly (poll T.left t) t) T) yes) in
    subst (λ (o : List ℕ). Done (cond (goes_on T) (lastly (poll T.left t) t) T) r board' o out') (unwritten T s board before out k d)
    (done_is (lastly (poll (worker s.head (board_in board)) t) t) (cond (goes_on T) (lastly (poll T.left t) t) T) r board' out out' e p)

-- the tick is waited for, whatever was worked out
abbrev pub waits : Told → At → Told
waits T t = record { left = (waiting T.left t).left; reply = (waiting T.left t).reply; bytes = []; round = T.round }

pub lastly_stands : (T : Told) (t : At) (s : Said) (board before out : List ℕ) → (s.response ≡ GoOn → ⊥) → Done T s board before out → Done (lastly T t) s board before out
lastly_stands T t s board before out n d =
    let no : goes_on T ≡ false = tells T s board before out n d in
    done_is T (lastly T t) s board before out (sym (ap (λ (b : Bool). cond b (waits T t) T) no)) d

pub lastly_waits : (T : Told) (t : At) (s r : Said) (board before out : List ℕ)
    → s.response ≡ GoOn → Done T s board before out
    → ((B : Board) → Quietly (waiting (worker s.head B) t) r B)
    → Done (lastly T t) r board before out
lastly_waits T t s r board before out k d q =
    let yes : goes_on T ≡ true = goes T s board before out k d in
    let w = q (board_in board) in
    let left = left_is T s board before out d in
    done_is (waits T t) (lastly T t) r board before out (sym (ap (λ (b : Bool). cond b (waits T t) T) yes))
    (record {
      head_is = w.head_is ∙ ap (λ (W : Worker). (waiting W t).left.head) left;
      board_is = d.board_is;
      reply_is = w.reply_is ∙ ap (λ (W : Worker). (waiting W t).reply) left;
      out_is = unwritten T s board before out k d ∙ sym (wrote_nothing before);
      silent = λ h. refl;
    })
