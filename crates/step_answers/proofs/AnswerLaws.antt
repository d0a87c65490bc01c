-- What is asked or told at once, with a list or with none.
use mathlib.Core.Path.{◌≡◌, refl, ap, sym, ◌∙◌, subst}
use mathlib.Core.Bool.{true, false, true≢false}
use mathlib.Core.List.{List, [], ◌∷◌}
use Prim.Native.Nat.{ℕ}
use lib.Dec.{eqb, eqb-suc-zero}
use lib.ListN.{length}
use Rattle.lent.specs.Lent.{cell_bytes, wrote_all, records}
use Rattle.board.specs.Board.{Board, board_in}
use Rattle.readings.specs.Changes.{changes_in}
use Rattle.heads.specs.declared.progress.Phase.{Phase}
use Rattle.heads.specs.declared.progress.Phase.TheVariants.{LostTold}
use Rattle.step_checks.specs.declared.answer.Kind.{Kind}
use Rattle.step_checks.specs.declared.answer.Kind.TheVariants.{Written, Refused}
use Rattle.step_answers.specs.Answers.{written_as}
use Rattle.engine.specs.declared.Engine.{Engine}
use Rattle.replies.specs.Reply.{reply_of}
use Rattle.replies.specs.declared.response.Response.{Response}
use Rattle.replies.specs.declared.response.Said.{Said}
use Rattle.replies.specs.Losing.{is_empty}
use Rattle.replies.specs.Reply as reply
use Rattle.replies.specs.Worker.{Worker, Told, tell, asks, worker, phased, said_in, Done}
use Rattle.replies.proofs.DoneLaws.{wrote_nothing}

-- no element and the length 0 are the same
pub empty_is : {A : Type 0} → (l : List A) → eqb (length l) 0 ≡ is_empty l
empty_is [] = refl
empty_is (x ∷ l) = eqb-suc-zero (length l)

-- something that carries no list
pub asked_done : (e : Engine) (B : Board) (p : Phase) (r : Response) (s : Said) (board' out : List ℕ) → s ≡ said_in e p r → board_in board' ≡ B → Done (asks (worker e B) p (reply_of r)) s board' out out
asked_done e B p r s board' out said kept = record {
  head_is = ap (λ (x : Said). x.head) said;
  board_is = kept;
  reply_is = ap (λ (x : Said). reply_of x.response) said;
  out_is = sym (wrote_nothing out);
  silent = λ h. refl;
}

-- something that carries a list
pub told_done : (e : Engine) (B : Board) (p : Phase) (r : Response) (bytes : List ℕ) (s : Said) (board' out out' : List ℕ) → s ≡ said_in e p r → board_in board' ≡ B → out' ≡ wrote_all out bytes → eqb (reply_of r).kind 0 ≡ false → Done (tell (phased (worker e B) p) (reply_of r) bytes) s board' out out'
told_done e B p r bytes s board' out out' said kept wrote told = record {
  head_is = ap (λ (x : Said). x.head) said;
  board_is = kept;
  reply_is = ap (λ (x : Said). reply_of x.response) said;
  out_is = wrote;
  silent = λ h. absurd (true≢false (sym h ∙ told));
}

-- no change writes nothing
pub no_changes : (B : Board) (changes out out' : List ℕ) → is_empty changes ≡ true → out' ≡ wrote_all out (cell_bytes (changes_in B changes)) → out' ≡ out
unfolding records cell_bytes
no_changes B [] out out' h wrote = wrote ∙ wrote_nothing out
no_changes B (k ∷ ks) out out' h wrote = absurd (true≢false (sym h))

-- a call before this one left the lent list as it was
pub done_from : (T : Told) (s : Said) (board' before out out' : List ℕ) → out ≡ before → Done T s board' out out' → Done T s board' before out'
done_from T s board' before out out' e h = subst (λ (o : List ℕ). Done T s board' o out') e h

-- a write that was neither written nor refused was lost
pub written_lost : (W : Worker) (kind : Kind) → (kind ≡ Written → ⊥) → ((error message : ℕ) → kind ≡ Refused error message → ⊥)
    → written_as W kind ≡ asks W LostTold (reply.was_lost W.head.progress.tag)
written_lost W Written w r = absurd (w refl)
written_lost W (Refused error message) w r = absurd (r error message refl)
written_lost W kind w r = refl
