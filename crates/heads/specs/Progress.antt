-- Rule 9: what the engine waits for, and what it needs to go on.
use Rattle.std.specs.Prelude.{Bool, false, cond, ℕ, ◌%◌, eqb, ltb, Float}
use Rattle.std.specs.Float.{binary64}
use Rattle.std.specs.Float.Ieee.{of_bits}
use Rattle.heads.specs.declared.progress.Phase.{Phase}
use Rattle.heads.specs.declared.progress.Phase.TheVariants.{Begin, Connect, OpenVersion, Version, Read, Describe, Write, ReadBack, Wait, Backoff, OpenFailedTold, OpenMetaTold, ConnectedTold, MetaTold, ValuesTold, InfoTold, RefusedTold, LostTold, OutcomeTold, BackTold, FailedTold, StaleTold, DisconnectedTold, ConnectingTold, Stopped}
use Rattle.heads.specs.declared.progress.After.{After}
use Rattle.heads.specs.declared.progress.After.TheVariants.{Tail, Idle, End}
use Rattle.heads.specs.declared.progress.Progress.{Progress}

abbrev pub fresh_progress : Progress
fresh_progress = record { phase = Begin; after = Tail; start = of_bits binary64 0; tick = of_bits binary64 0; boundary = false; tag = 0 }

unfoldable pub phase_from : ℕ → Phase
phase_from n =
    cond (eqb n 0) Begin (cond (eqb n 1) Connect (cond (eqb n 2) OpenVersion (cond (eqb n 3) Version (cond (eqb n 4) Read (cond (eqb n 5) Describe
    (cond (eqb n 6) Write (cond (eqb n 7) ReadBack (cond (eqb n 8) Wait (cond (eqb n 9) Backoff (cond (eqb n 10) OpenFailedTold (cond (eqb n 11) OpenMetaTold
    (cond (eqb n 12) ConnectedTold (cond (eqb n 13) MetaTold (cond (eqb n 14) ValuesTold (cond (eqb n 15) InfoTold (cond (eqb n 16) RefusedTold
    (cond (eqb n 17) LostTold (cond (eqb n 18) OutcomeTold (cond (eqb n 19) BackTold (cond (eqb n 20) FailedTold (cond (eqb n 21) StaleTold
    (cond (eqb n 22) DisconnectedTold (cond (eqb n 23) ConnectingTold Stopped)))))))))))))))))))))))

abbrev pub phase_number : Phase → ℕ
phase_number Begin = 0
phase_number Connect = 1
phase_number OpenVersion = 2
phase_number Version = 3
phase_number Read = 4
phase_number Describe = 5
phase_number Write = 6
phase_number ReadBack = 7
phase_number Wait = 8
phase_number Backoff = 9
phase_number OpenFailedTold = 10
phase_number OpenMetaTold = 11
phase_number ConnectedTold = 12
phase_number MetaTold = 13
phase_number ValuesTold = 14
phase_number InfoTold = 15
phase_number RefusedTold = 16
phase_number LostTold = 17
phase_number OutcomeTold = 18
phase_number BackTold = 19
phase_number FailedTold = 20
phase_number StaleTold = 21
phase_number DisconnectedTold = 22
phase_number ConnectingTold = 23
phase_number Stopped = 24

abbrev pub after_from : ℕ → After
after_from n = cond (eqb n 0) Tail (cond (eqb n 1) Idle End)

abbrev pub after_number : After → ℕ
after_number Tail = 0
after_number Idle = 1
after_number End = 2

abbrev pub with_phase : Progress → Phase → Progress
with_phase x p = record { phase = p; after = x.after; start = x.start; tick = x.tick; boundary = x.boundary; tag = x.tag }

-- Rule 8: a write of the tag is asked for
abbrev pub with_writing : Progress → After → ℕ → Progress
with_writing x a k = record { phase = Write; after = a; start = x.start; tick = x.tick; boundary = x.boundary; tag = k }

-- Rule 6: a round was worked out
abbrev pub with_round : Progress → Float → Float → Bool → Progress
with_round x start tick boundary = record { phase = x.phase; after = x.after; start = start; tick = tick; boundary = boundary; tag = x.tag }

-- the progress that words hold
abbrev pub progress_from : ℕ → ℕ → ℕ → ℕ → ℕ → ℕ → Progress
progress_from phase after start tick boundary tag = record {
  phase = phase_from phase;
  after = after_from after;
  start = of_bits binary64 start;
  tick = of_bits binary64 tick;
  boundary = ltb 0 boundary;
  tag = tag % 65536;
}
