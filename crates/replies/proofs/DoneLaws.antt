-- What was done, carried along equations and out of calls that leave the board and the lent list alone.
use mathlib.Core.Path.{◌≡◌, refl, ap, sym, ◌∙◌, subst}
use mathlib.Core.Bool.{Bool, true, false, cond}
use mathlib.Core.List.{List, []}
use Prim.Native.Nat.{ℕ}
use Rattle.lent.specs.Lent.{over_bytes, wrote_all, has_room}
use Rattle.lent.proofs.LentLaws.{over_none}
use Rattle.board.specs.Board.{Board, board_in}
use Rattle.replies.specs.declared.response.Said.{Said}
use Rattle.replies.specs.Worker.{Told, Done, Quietly}

-- nothing is written where there are no bytes
pub wrote_nothing : (out : List ℕ) → wrote_all out [] ≡ out
unfolding wrote_all
wrote_nothing out = either_way (has_room out []) (over_none out)
  where
    either_way : (b : Bool) → over_bytes out [] ≡ out → cond b (over_bytes out []) out ≡ out
    either_way true e = e
    either_way false e = refl

pub done_is : (T T' : Told) (s : Said) (board' out out' : List ℕ) → T ≡ T' → Done T s board' out out' → Done T' s board' out out'
done_is T T' s board' out out' e h = subst (λ (t : Told). Done t s board' out out') e h

pub quiet_is : (T T' : Told) (s : Said) (B : Board) → T ≡ T' → Quietly T s B → Quietly T' s B
quiet_is T T' s B e h = subst (λ (t : Told). Quietly t s B) e h

-- a call that only looks at the head, where nothing was written before it
pub quietly_done : (T : Told) (s : Said) (B : Board) (board' out out' : List ℕ) → Quietly T s B → board_in board' ≡ B → out' ≡ out → Done T s board' out out'
quietly_done T s B board' out out' q e o = record {
  head_is = q.head_is;
  board_is = e ∙ sym q.board_kept;
  reply_is = q.reply_is;
  out_is = o ∙ sym (ap (wrote_all out) q.nothing ∙ wrote_nothing out);
  silent = λ h. q.nothing;
}

pub quiet_done : (T : Told) (s : Said) (B : Board) (board' out : List ℕ) → Quietly T s B → board_in board' ≡ B → Done T s board' out out
quiet_done T s B board' out q e = quietly_done T s B board' out out q e refl
