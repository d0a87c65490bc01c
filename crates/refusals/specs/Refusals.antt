-- The numbers of refusals: those of document 01's checks, and 100 for memory that no engine has the length of.
use Rattle.std.specs.Prelude.{⊤, ℕ, Result, Ok, Err}
use Rattle.refusals.specs.declared.Refusal.{Refusal}
use Rattle.refusals.specs.declared.Refusal.TheVariants.{NameCount, NameEnds, NameBytes, NameOrder, Cycle, Period, Grace, Settings, Clock, ClockBehind, Tag, Tier, NotConnected, QueueFull, NotAwaited, NotFinite, ListRoom, PanelLength, PanelTag, PanelTwice, PanelTier, TierHeld, NotAnEngine}

abbrev pub number : Refusal → ℕ
number NameCount = 1
number NameEnds = 2
number NameBytes = 3
number NameOrder = 4
number Cycle = 11
number Period = 12
number Grace = 13
number Settings = 14
number Clock = 21
number ClockBehind = 22
number Tag = 23
number Tier = 24
number NotConnected = 31
number QueueFull = 32
number NotAwaited = 41
number NotFinite = 42
number ListRoom = 43
number PanelLength = 51
number PanelTag = 53
number PanelTwice = 54
number PanelTier = 55
number TierHeld = 56
number NotAnEngine = 100

-- 0 where nothing refuses
abbrev pub code : Result ⊤ Refusal → ℕ
code (Ok u) = 0
code (Err r) = number r
