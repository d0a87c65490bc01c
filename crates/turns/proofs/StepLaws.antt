-- A step works out one round at most; all else that it does keeps the tiers, the order and the slice index.
use mathlib.Core.Path.{◌≡◌, refl}
use mathlib.Core.Bool.{Bool, true, false, not, cond}
use mathlib.Core.List.{[]}
use mathlib.Core.Option.{some}
use Prim.Native.Nat.{ℕ, ◌/◌}
use native.Mathlib.Omega.{arith}
use lib.Dec.{eqb, ltb}
use lib.Ieee.{lt}
use lib.ListN.{length}
use borrow.Author.Tests.{eqb-true}
use Rattle.names.specs.Directory.{max_names}
use Rattle.ieee.specs.Times.{clock_ok}
use Rattle.lent.specs.Lent.{tag_bytes}
use Rattle.lent.specs.Changes.{change_size}
use Rattle.heads.specs.declared.progress.After.TheVariants.{End}
use Rattle.heads.specs.declared.progress.Phase.TheVariants.{Read}
use Rattle.replies.specs.Reply as reply
use Rattle.replies.specs.declared.at.At.{At}
use Rattle.replies.specs.Worker.{Worker, Told, tell, phased, goes_on}
use Rattle.replies.specs.Losing.{is_empty}
use Rattle.cycles.specs.Polling.{waiting, reading, round_at, with_worked, polled, poll, lastly, finished}
use Rattle.step_checks.specs.Awaited.{Answer, awaited, answers, contents, step_check}
use Rattle.worker.specs.Steps.{clocked, stepped, step}
use Rattle.turns.proofs.KeepLaws.{Keeps, keeps_all, keeps_after, Still, still_tell, still_if}
use Rattle.turns.proofs.StillLaws.{keeps_refl, still_writing, still_waiting, still_reading, still_handled}

-- What T did, from the engine W on: no round; or one round, from an engine that W keeps to.
pub data Did (W : Worker) (at : At) (T : Told) : Type 0 where
  nothing : Still W T → Did W at T
  one_round : (M : Worker) → Keeps W M → T.round ≡ some (round_at M at) → Keeps (with_worked M at (round_at M at)) T.left → Did W at T

module _ (at : At) where
  -- either of two
  did_if : (W : Worker) (b : Bool) (x y : Told) → Did W at x → Did W at y → Did W at (cond b x y)
  did_if W true x y p q = p
  did_if W false x y p q = q

  -- from an engine that keeps all
  did_after : (W M : Worker) (T : Told) → Keeps W M → Did M at T → Did W at T
  did_after W M T k (nothing s) = nothing (record { keeps = keeps_after W M T.left k s.keeps; no_round = s.no_round })
  did_after W M T k (one_round N j e l) = one_round N (keeps_after W M N k j) e l

  -- a poll works out one round, or none
  did_poll : (W : Worker) → Did W at (poll W at)
  unfolding poll polled
  did_poll W =
      let R = round_at W at in
      let next = with_worked W at R in
      let asked = next.board.asked in
      let T = cond (is_empty asked) (reading next at) (tell (phased next Read) (reply.read (length asked)) (tag_bytes asked)) in
      let s : Still next T = still_if next (is_empty asked) _ _ (still_reading at next) (still_tell next (phased next Read) _ _ (keeps_all next (phased next Read) refl refl refl refl refl refl)) in
      did_if W W.head.link.stopping _ _ (nothing (still_writing at W End)) (one_round W (keeps_refl W) refl s.keeps)

  -- what follows it works out none
  did_lastly : (W : Worker) (T : Told) → Did W at T → Did W at (lastly T at)
  did_lastly W T d = did_if W (goes_on T) _ T (go d) d
    where
      waits : Keeps T.left (waiting T.left at).left
      waits = (still_waiting at T.left).keeps

      W' : Told
      W' = record { left = (waiting T.left at).left; reply = (waiting T.left at).reply; bytes = []; round = T.round }

      go : Did W at T → Did W at W'
      go (nothing s) = nothing (record { keeps = keeps_after W T.left W'.left s.keeps waits; no_round = s.no_round })
      go (one_round M k e l) = one_round M k e (keeps_after (with_worked M at (round_at M at)) T.left W'.left l waits)

  -- so a step works out one at most
  did_finished : (W : Worker) (T : Told) → Still W T → Did W at (finished T at)
  unfolding finished
  did_finished W T s =
      did_if W (goes_on T) _ T (did_after W T.left (lastly (poll T.left at) at) s.keeps (did_lastly T.left (poll T.left at) (did_poll T.left))) (nothing s)

  -- an accepted step, from the engine with the clock of the step on
  pub did_stepped : (W : Worker) (a : Answer) → answers (awaited W.head.progress.phase) a.kind ≡ true → contents W a ≡ 0 → Did (clocked W at) at (stepped W at a)
  unfolding stepped contents
  did_stepped W a k e = did_finished (clocked W at) _ (still_handled W.head.progress.phase (clocked W at) at a k e)

-- ---- the checks of a step

-- What check 0 says: the clock is a clock reading and not behind, the answer is the one waited for, and its contents are in range.
pub record Accepted (W : Worker) (at : At) (a : Answer) : Type 0 where
  pub clock_good : clock_ok at.clock ≡ true
  pub not_behind : lt at.clock W.head.clock ≡ false
  pub awaits : answers (awaited W.head.progress.phase) a.kind ≡ true
  pub holds : contents W a ≡ 0

pub accepted-step : (W : Worker) (at : At) (a : Answer) (out : ℕ) → step_check W at a out ≡ 0 → Accepted W at a
unfolding step_check
accepted-step W at a out e =
    go (ltb (out / change_size) max_names) (clock_ok at.clock) refl (lt at.clock W.head.clock) refl (answers (awaited W.head.progress.phase) a.kind) refl e
  where
    go : (x : Bool) (c : Bool) → clock_ok at.clock ≡ c → (l : Bool) → lt at.clock W.head.clock ≡ l → (k : Bool) → answers (awaited W.head.progress.phase) a.kind ≡ k
        → cond x 43 (cond (not c) 21 (cond l 22 (cond (not k) 41 (contents W a)))) ≡ 0 → Accepted W at a
    go true c p l q k r h = absurd (omega arith)
    go false false p l q k r h = absurd (omega arith)
    go false true p true q k r h = absurd (omega arith)
    go false true p false q false r h = absurd (omega arith)
    go false true p false q true r h = record { clock_good = p; not_behind = q; awaits = r; holds = h }

-- What holds of a refused step, and of an accepted one, holds of every step.
pub step_cases : (W : Worker) (at : At) (a : Answer) (out : ℕ) (Q : Told → Type 0) → ((n : ℕ) → Q (tell W (reply.refused n) [])) → (Accepted W at a → Q (stepped W at a)) → Q (step W at a out)
unfolding step
step_cases W at a out Q r s = go (eqb (step_check W at a out) 0) refl
  where
    go : (b : Bool) → eqb (step_check W at a out) 0 ≡ b → Q (cond b (stepped W at a) (tell W (reply.refused (step_check W at a out)) []))
    go true e = s (accepted-step W at a out (eqb-true (step_check W at a out) 0 e))
    go false e = r (step_check W at a out)
