-- A refusal's number is not 0, so the answer 0 says that nothing refuses.
use Rattle.std.specs.Prelude.{◌≡◌, refl, false, eqb}
use Rattle.refusals.specs.Refusals.{number}
use Rattle.refusals.specs.declared.Refusal.{Refusal}
use Rattle.refusals.specs.declared.Refusal.TheVariants.{NameCount, NameEnds, NameBytes, NameOrder, Cycle, Period, Grace, Settings, Clock, ClockBehind, Tag, Tier, NotConnected, QueueFull, NotAwaited, NotFinite, ListRoom, PanelLength, PanelTag, PanelTwice, PanelTier, TierHeld, NotAnEngine}

pub not_zero : (r : Refusal) → eqb (number r) 0 ≡ false
not_zero NameCount = refl
not_zero NameEnds = refl
not_zero NameBytes = refl
not_zero NameOrder = refl
not_zero Cycle = refl
not_zero Period = refl
not_zero Grace = refl
not_zero Settings = refl
not_zero Clock = refl
not_zero ClockBehind = refl
not_zero Tag = refl
not_zero Tier = refl
not_zero NotConnected = refl
not_zero QueueFull = refl
not_zero NotAwaited = refl
not_zero NotFinite = refl
not_zero ListRoom = refl
not_zero PanelLength = refl
not_zero PanelTag = refl
not_zero PanelTwice = refl
not_zero PanelTier = refl
not_zero TierHeld = refl
not_zero NotAnEngine = refl
