-- What a call comes to: memory of another length, a refusal, or the work done.
use mathlib.Core.Path.{◌≡◌, refl, ap, ap₂, sym, ◌∙◌}
use mathlib.Core.Bool.{Bool, true, false, cond, ◌||◌}
use mathlib.Core.List.{List, [], ◌∷◌, ◌++◌}
use Prim.Native.Nat.{ℕ, ◌-◌, ◌≤◌, ◌<◌}
use native.Mathlib.Omega.{arith}
use borrow.Rule.Slice.PartMut.{put_mid, put_same}
use lib.Dec.{eqb, ltb}
use lib.ListN.{length, take}
use lib.Seq.{take_all}
use borrow.Author.Tests.{eqb-true, eqb-false, ltb-false, eq-eqb, ne_eqb, lt-ltb, le-ltb}
use Rattle.std.specs.Prelude.{Result, Ok, Err}
use Rattle.refusals.specs.Refusals.{number}
use Rattle.refusals.specs.declared.Refusal.{Refusal}
use Rattle.names.specs.Directory.{bad_count, max_names}
use Rattle.checks.specs.Calls.{max_writes}
use Rattle.checks.specs.Creation.{Setup, creation_check}
use Rattle.checks.proofs.Laws.{groups_few}
use Rattle.settings.specs.Configured.{given_groups}
use Rattle.queue.specs.Queue.{queued_with, write_room}
use Rattle.queue.specs.declared.Write.{Write}
use Rattle.board.specs.Board.{with_queue, with_configured}
use Rattle.fresh.specs.Fresh.{configured_room, fresh_board}
use Rattle.engine.specs.declared.Engine.{Engine}
use Rattle.lent.specs.Lent.{wrote_all}
use Rattle.replies.specs.Reply as reply
use Rattle.replies.specs.Reply.{reply_of}
use Rattle.replies.proofs.DoneLaws.{wrote_nothing}
use Rattle.replies.proofs.ReplyLaws.{no_refusal}
use Rattle.replies.specs.declared.at.At.{At}
use Rattle.replies.specs.Worker.{Worker, Told, worker, with_board, tell}
use Rattle.replies.specs.declared.reply.Reply.{Reply}
use Rattle.replies.specs.declared.response.Said.{Said}
use Rattle.step_checks.specs.Awaited.{Answer}
use Rattle.worker.specs.Steps.{step, Stepped as StepDone}
use Rattle.worker.proofs.StepLaws.{left_same}
use Rattle.capi.specs.Memory.{head_size, memory_size, not_an_engine, size_check, IsEngine, board_bytes, worker_in, Called}
use Rattle.capi.specs.Creation.{creation_answer, fresh_worker, Created}
use Rattle.capi.proofs.Laws.{number_some, size-right, board_put}
use Rattle.capi.specs.Calls.{SteppedBoard, Stepped}

pub alien_call : (bs : List ℕ) (r : Refusal) (x n : ℕ) (W : Worker) → (IsEngine bs → ⊥) × (number r ≡ not_an_engine) → x ≡ number r → Called bs bs x n W
alien_call bs r x n W h e = record {
  alien = λ g. e ∙ h.1;
  code = λ g. absurd (h.0 g);
  done = λ g z. absurd (h.0 g);
  kept = λ g. refl;
  long = refl;
}

pub refused_call : (bs : List ℕ) (r : Refusal) (x n : ℕ) (W : Worker) → IsEngine bs → number r ≡ n → x ≡ number r → Called bs bs x n W
refused_call bs r x n W h e is = record {
  alien = λ g. absurd (g h);
  code = λ g. is ∙ e;
  done = λ g d. absurd (number_some r (e ∙ d));
  kept = λ g. refl;
  long = refl;
}

pub done_call : (old new : List ℕ) (n : ℕ) (W : Worker) → IsEngine old → 0 ≡ n → worker_in new ≡ W → length new ≡ length old → Called old new 0 n W
done_call old new n W h e d l = record {
  alien = λ g. absurd (g h);
  code = λ g. e;
  done = λ g z. d;
  kept = λ g. absurd (g refl);
  long = l;
}

-- ---- a write

-- one that is accepted finds room, and stands last
pub queued_last : (W : Worker) (w : Write) → length W.board.queue < max_writes
    → with_board W (with_queue W.board (queued_with write_room W.board.queue w)) ≡ with_board W (with_queue W.board (W.board.queue ++ (w ∷ [])))
queued_last W w h = rw (lt-ltb (length W.board.queue) write_room (omega arith)) refl

-- ---- creation

-- the groups that creation accepts find room
pub all-configured : (s : Setup) → creation_check s ≡ 0 → with_configured (fresh_worker s).board (take configured_room (given_groups s.groups)) ≡ (fresh_worker s).board
unfolding fresh_board
all-configured s e = ap (with_configured (fresh_worker s).board) (take_all configured_room (given_groups s.groups) (omega (arith, groups_few s e)))

module _ (s : Setup) where
  count_bad : (b c : Bool) → eqb (length s.ends) 0 ≡ b → ltb max_names (length s.ends) ≡ c → bad_count max_names s.ends ≡ (b || c)
  count_bad b c e f = rw (e, f) refl

  pub no_names : (bs : List ℕ) → length s.ends ≡ 0 → Created bs bs 1 s
  unfolding creation_answer
  no_names bs e = record {
    code = rw (count_bad true (ltb max_names (length s.ends)) (eq-eqb (length s.ends) 0 e) refl) refl;
    done = λ z. absurd (omega (arith, z));
    kept = λ z. refl;
    long = refl;
  }

  pub many_names : (bs : List ℕ) → (length s.ends ≡ 0 → ⊥) → max_names < length s.ends → Created bs bs 1 s
  unfolding creation_answer
  many_names bs d h = record {
    code = rw (count_bad false true (ne_eqb (length s.ends) 0 d) (lt-ltb max_names (length s.ends) h)) refl;
    done = λ z. absurd (omega (arith, z));
    kept = λ z. refl;
    long = refl;
  }

  module _ (bs : List ℕ) (d : length s.ends ≡ 0 → ⊥) (h : length s.ends ≤ max_names) where
    count-good : bad_count max_names s.ends ≡ false
    count-good = count_bad false false (ne_eqb (length s.ends) 0 d) (le-ltb max_names (length s.ends) h)

    pub other_size : (length bs ≡ memory_size (length s.ends) → ⊥) → Created bs bs not_an_engine s
    unfolding creation_answer
    other_size o = record {
      code = rw (count-good, ne_eqb (length bs) (memory_size (length s.ends)) o) refl;
      done = λ z. absurd (omega (arith, z));
      kept = λ z. refl;
      long = refl;
    }

    module _ (r : ℕ) (e : length bs ≡ memory_size (length s.ends)) (c : r ≡ creation_check s) where
      checked : r ≡ creation_answer s (length bs)
      unfolding creation_answer
      checked = c ∙ sym (rw (count-good, eq-eqb (length bs) (memory_size (length s.ends)) e) refl)

      pub not_made : (r ≡ 0 → ⊥) → Created bs bs r s
      not_made z = record { code = checked; done = λ y. absurd (z y); kept = λ y. refl; long = refl }

      pub is_made : (new : List ℕ) → r ≡ 0 → worker_in new ≡ fresh_worker s → length new ≡ length bs → Created bs new 0 s
      is_made new z w l = record { code = sym z ∙ checked; done = λ y. w; kept = λ y. absurd (y refl); long = l }

-- where creation answers 0 the checks refuse nothing, and the memory is an engine's
pub created_engine : (s : Setup) (n : ℕ) → creation_answer s n ≡ 0 → (creation_check s ≡ 0) × (size_check n ≡ 0)
unfolding creation_answer
created_engine s n e = go (eqb (length s.ends) 0) refl (ltb max_names (length s.ends)) refl (eqb n (memory_size (length s.ends))) refl e
  where
    go : (a : Bool) → eqb (length s.ends) 0 ≡ a → (b : Bool) → ltb max_names (length s.ends) ≡ b → (c : Bool) → eqb n (memory_size (length s.ends)) ≡ c
        → cond (a || b) 1 (cond c (creation_check s) not_an_engine) ≡ 0 → (creation_check s ≡ 0) × (size_check n ≡ 0)
    go true p b q c r e = absurd (omega (arith, e))
    go false p true q c r e = absurd (omega (arith, e))
    go false p false q false r e = absurd (omega (arith, e))
    go false p false q true r e =
        let some : 1 ≤ length s.ends = positive (length s.ends) (eqb-false (length s.ends) 0 p) in
        (e, ap size_check (eqb-true n (memory_size (length s.ends)) r) ∙ size-right (length s.ends) some (ltb-false max_names (length s.ends) q))
      where
        positive : (m : ℕ) → (m ≡ 0 → ⊥) → 1 ≤ m
        positive m d = omega (arith, d)

-- ---- steps

-- a step that was done on the board in its part of the memory
pub step_put : (bs y out out' : List ℕ) (W : Worker) (r : Result Said Refusal) (T : Told) → IsEngine bs → length y ≡ length (board_bytes bs)
    → StepDone W T r (board_bytes bs) y out out' → SteppedBoard W T r bs (put_mid head_size (length bs - head_size) bs y) out out'
unfolding StepDone SteppedBoard
step_put bs y out out' W (Ok s) T h l d = record {
  head_is = d.head_is;
  board_is = ap (λ (x : Worker). x.board) (board_put bs y h l) ∙ d.board_is;
  reply_is = d.reply_is;
  out_is = d.out_is;
}
step_put bs y out out' W (Err r) T h l d =
    (d.0, ap (λ (x : List ℕ). put_mid head_size (length bs - head_size) bs x) d.1 ∙ put_same head_size (length bs - head_size) bs, d.2)

pub alien_step : (bs out : List ℕ) (r : Refusal) (x : Reply) (T : Told) → (IsEngine bs → ⊥) × (number r ≡ not_an_engine) → x ≡ reply.refused (number r) → Stepped bs bs x out out T
alien_step bs out r x T h e = record {
  alien = λ g. e ∙ ap (λ (n : ℕ). reply.refused n) h.1;
  reply_is = λ g. absurd (h.0 g);
  left_is = λ g. absurd (h.0 g);
  out_is = λ g. absurd (h.0 g);
  kept = λ g. (refl, refl);
  long = refl;
}

module _ (bs new out out' : List ℕ) (e : Engine) (at : At) (a : Answer) (h : IsEngine bs) (head : e ≡ (worker_in bs).head) where
  abbrev W : Worker
  W = worker e (worker_in bs).board

  abbrev T : Told
  T = step (worker_in bs) at a (length out)

  same : step W at a (length out) ≡ T
  same = ap (λ (x : Engine). step (worker x (worker_in bs).board) at a (length out)) head

  -- a refused step leaves the engine as it was, whatever its number
  pub refused_step_by : (x : Reply) → x ≡ T.reply → out' ≡ wrote_all out T.bytes → (x.code ≡ 0 → ⊥) → (new ≡ bs) × (out' ≡ out) → Stepped bs new x out out' T
  refused_step_by x is wrote z k = record {
    alien = λ g. absurd (g h);
    reply_is = λ g. is;
    left_is = λ g. ap worker_in k.0 ∙ sym (left_same (worker_in bs) at a (length out) (ap (λ (r : Reply). eqb r.code 0) (sym is) ∙ ne_eqb _ _ z));
    out_is = λ g. wrote;
    kept = λ g. k;
    long = ap (λ (l : List ℕ). length l) k.0;
  }

  pub refused_step : (r : Refusal) (x : Reply) → SteppedBoard W (step W at a (length out)) (Err r) bs new out out' → x ≡ reply.refused (number r) → Stepped bs new x out out' T
  unfolding SteppedBoard
  refused_step r x d is =
      let told : tell W (reply.refused (number r)) [] ≡ T = sym d.0 ∙ same in
      record {
        alien = λ g. absurd (g h);
        reply_is = λ g. is ∙ ap (λ (t : Told). t.reply) told;
        left_is = λ g. ap worker_in d.1 ∙ (ap (λ (y : Engine). worker y (worker_in bs).board) (sym head) ∙ ap (λ (t : Told). t.left) told);
        out_is = λ g. d.2 ∙ (sym (wrote_nothing out) ∙ ap (λ (t : Told). wrote_all out t.bytes) told);
        kept = λ g. (d.1, d.2);
        long = ap (λ (l : List ℕ). length l) d.1;
      }

  -- what an accepted one gives is no refusal
  pub done_step : (s : Said) (x : Reply) (last : List ℕ) → SteppedBoard W (step W at a (length out)) (Ok s) bs new out out' → x ≡ reply_of s.response
      → worker_in last ≡ worker s.head (worker_in new).board → length last ≡ length bs → Stepped bs last x out out' T
  unfolding SteppedBoard
  done_step s x last d is w l = record {
    alien = λ g. absurd (g h);
    reply_is = λ g. is ∙ (d.reply_is ∙ ap (λ (t : Told). t.reply) same);
    left_is = λ g. w ∙ ap₂ {C = Worker} worker d.head_is d.board_is ∙ ap (λ (t : Told). t.left) same;
    out_is = λ g. d.out_is ∙ ap (λ (t : Told). wrote_all out t.bytes) same;
    kept = λ g. absurd (g (ap (λ (r : Reply). r.code) is ∙ no_refusal s.response));
    long = l;
  }
