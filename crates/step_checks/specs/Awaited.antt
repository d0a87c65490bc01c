-- Rule 9: what a step waits for, and its checks.
use Rattle.std.specs.Prelude.{Bool, true, false, not, cond, List, ℕ, ◌/◌, ltb, length}
use Rattle.std.specs.Float.Ieee.{lt}
use Rattle.names.specs.Directory.{max_names}
use Rattle.ieee.specs.Times.{clock_ok}
use Rattle.results.specs.Results.{results_ok}
use Rattle.settings.specs.Settings.{settings_ok}
use Rattle.lent.specs.Changes.{change_size}
use Rattle.heads.specs.declared.progress.Phase.{Phase}
use Rattle.heads.specs.declared.progress.Phase.TheVariants.{Begin, Connect, OpenVersion, Version, Read, Describe, Write, ReadBack, Wait, Backoff, OpenFailedTold, OpenMetaTold, ConnectedTold, MetaTold, ValuesTold, InfoTold, RefusedTold, LostTold, OutcomeTold, BackTold, FailedTold, StaleTold, DisconnectedTold, ConnectingTold, Stopped}
use Rattle.replies.specs.declared.at.At.{At}
use Rattle.replies.specs.Worker.{Worker}
use Rattle.step_checks.specs.declared.answer.Answer.{Answer as Given}
use Rattle.step_checks.specs.declared.answer.Kind.{Kind}
use Rattle.step_checks.specs.declared.answer.Kind.TheVariants as kind
use Rattle.step_checks.specs.declared.awaiting.Wait.{Wait as Awaited}
use Rattle.step_checks.specs.declared.awaiting.Wait.TheVariants as wait
use Rattle.step_checks.specs.Kinds.{is_error, is_version, is_results}

-- An answer: its kind, and the bytes of a list of records.
pub record Answer : Type 0 where
  pub kind : Kind
  pub list : List ℕ

-- an answer, by the bytes of its list
abbrev pub answer : Given → Answer
answer a = record { kind = a.kind; list = a.list.now }

-- ---- check 41: what each phase waits for

unfoldable pub awaited : Phase → Awaited
awaited Begin = wait.Begin
awaited Connect = wait.Connect
awaited OpenVersion = wait.Version
awaited Version = wait.Version
awaited Read = wait.Results
awaited Describe = wait.Descriptions
awaited Write = wait.Write
awaited ReadBack = wait.Results
awaited Wait = wait.Time
awaited Backoff = wait.Time
awaited OpenFailedTold = wait.Taken
awaited OpenMetaTold = wait.Taken
awaited ConnectedTold = wait.Taken
awaited MetaTold = wait.Taken
awaited ValuesTold = wait.Taken
awaited InfoTold = wait.Taken
awaited RefusedTold = wait.Taken
awaited LostTold = wait.Taken
awaited OutcomeTold = wait.Taken
awaited BackTold = wait.Taken
awaited FailedTold = wait.Taken
awaited StaleTold = wait.Taken
awaited DisconnectedTold = wait.Taken
awaited ConnectingTold = wait.Taken
awaited Stopped = wait.Nothing

-- the answers to each wait; a write is answered by written, lost, or a refusal with its error
unfoldable pub answers : Awaited → Kind → Bool
answers wait.Begin kind.Begin = true
answers wait.Connect kind.Opened = true
answers wait.Connect kind.NotOpened = true
answers wait.Version (kind.Version v) = true
answers wait.Results kind.Results = true
answers wait.Results kind.Lost = true
answers wait.Write kind.Written = true
answers wait.Write (kind.Refused error message) = is_error error
answers wait.Write kind.Lost = true
answers wait.Descriptions kind.Descriptions = true
answers wait.Descriptions kind.NotDescribed = true
answers wait.Time kind.Waited = true
answers wait.Taken kind.Taken = true
answers w k = false

-- Check 14 of a version's settings, and check 42 of the results that are covered; else 0
unfoldable pub contents : Worker → Answer → ℕ
contents W a =
    cond (is_version a.kind) (cond (settings_ok W.head.count a.list) 0 14)
    (cond (is_results a.kind) (cond (results_ok (length W.board.asked) a.list) 0 42) 0)

-- Checks of a step, in document 01's order: 43, 21, 22, 41, then 14 or 42; 0 where it is accepted. The lent list has room for a change of every name that a directory can have.
unfoldable pub step_check : Worker → At → Answer → ℕ → ℕ
step_check W at a out =
    cond (ltb (out / change_size) max_names) 43
    (cond (not (clock_ok at.clock)) 21
    (cond (lt at.clock W.head.clock) 22
    (cond (not (answers (awaited W.head.progress.phase) a.kind)) 41
    (contents W a))))
