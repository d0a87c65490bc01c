-- What is counted as a replay goes on. The greatest number stands for all above it.
use Rattle.std.specs.Prelude.{Bool, false, cond, eqb, ℕ, ◌+◌, ◌-◌, ◌^◌, min, Option, Some, None}
use Rattle.frames.specs.Calls.{number}
use Rattle.frames.specs.declared.calls.Call.{Call}
use Rattle.frames.specs.declared.counts.Counts.{Counts}

abbrev pub plus : ℕ → ℕ → ℕ
plus m n = min (m + n) (2 ^ 64 - 1)

-- a creation begins a history; its number is 1
abbrev pub begins : Option Call → Bool
begins None = false
begins (Some call) = eqb (number call) 1

-- one call more; the calls of a history are counted from its creation on
abbrev pub next : Counts → Option Call → Counts
next x call = record { histories = plus x.histories (cond (begins call) 1 0); calls = plus x.calls 1; here = cond (begins call) 1 (plus x.here 1); bytes = x.bytes }

-- so many bytes more
abbrev pub compared : Counts → ℕ → Counts
compared x n = record { histories = x.histories; calls = x.calls; here = x.here; bytes = plus x.bytes n }
