-- Rule 10: the statistics of the rounds.
use Rattle.std.specs.Prelude.{cond, ℕ, ◌+◌, eqb, ltb, ℤ, Float, Option, Some, None}
use Rattle.std.specs.Float.{binary64}
use Rattle.std.specs.Float.Ieee.{of_bits, mul, lt}
use Rattle.std.proofs.Common.{to_z}
use Rattle.std.specs.Int.{w64}
use Rattle.ieee.specs.Round.{float, round1_of}
use Rattle.heads.specs.declared.stats.RoundTime.{RoundTime}
use Rattle.heads.specs.declared.stats.Stats.{Stats}

abbrev pub fresh_stats : Stats
fresh_stats = record { last = None; tags = 0; overruns = 0; reconnects = 0; reloads = 0 }

-- Counts stop at 2^64 - 1.
abbrev pub counted : ℕ → ℕ
counted n = cond (ltb n 0xffff_ffff_ffff_ffff) (n + 1) n

-- Rule 10: how many tags the round asked for; each was one read.
abbrev pub read_stats : Stats → ℕ → Stats
read_stats x n = record { last = x.last; tags = n; overruns = x.overruns; reconnects = x.reconnects; reloads = x.reloads }

-- Rule 10: a round that took `elapsed` seconds has ended at the wall time t; one longer than its tick is an overrun.
unfoldable pub tail_stats : Stats → Float → Float → ℤ → Stats
tail_stats x elapsed tick t = record {
  last = Some (record { ms = round1_of (mul binary64 elapsed (float 1000)); ts = t });
  tags = x.tags;
  overruns = cond (lt tick elapsed) (counted x.overruns) x.overruns;
  reconnects = x.reconnects;
  reloads = x.reloads;
}

-- Rule 10: a reconnect attempt.
abbrev pub reconnected : Stats → Stats
reconnected x = record { last = x.last; tags = x.tags; overruns = x.overruns; reconnects = counted x.reconnects; reloads = x.reloads }

-- Rule 8: a version change from non-null counts a reload.
abbrev pub reloaded : Stats → Stats
reloaded x = record { last = x.last; tags = x.tags; overruns = x.overruns; reconnects = x.reconnects; reloads = counted x.reloads }

-- the time of a round that words hold: none where the first is 0
abbrev pub round_time_from : ℕ → ℕ → ℕ → Option RoundTime
round_time_from timed ms ts = cond (eqb timed 0) None (Some (record { ms = of_bits binary64 ms; ts = to_z w64 ts }))

-- the statistics that words hold
abbrev pub stats_from : ℕ → ℕ → ℕ → ℕ → ℕ → ℕ → ℕ → Stats
stats_from timed ms ts tags overruns reconnects reloads = record {
  last = round_time_from timed ms ts;
  tags = tags;
  overruns = overruns;
  reconnects = reconnects;
  reloads = reloads;
}
