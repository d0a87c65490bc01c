-- The number that stands for a call in a frame.
use Rattle.std.specs.Prelude.{ℕ}
use Rattle.frames.specs.declared.calls.Call.{Call}
use Rattle.frames.specs.declared.calls.Call.TheVariants.{Create, SetTier, Load, Write, Stop, Step, State, Stats, TierCounts, GroupStats, Table, Panel, Tag}

abbrev pub number : Call → ℕ
number Create = 1
number SetTier = 2
number Load = 3
number Write = 4
number Stop = 5
number Step = 6
number State = 7
number Stats = 8
number TierCounts = 9
number GroupStats = 10
number Table = 11
number Panel = 12
number Tag = 13
