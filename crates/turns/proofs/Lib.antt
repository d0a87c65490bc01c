-- `ClaimLaws`: demand 3 holds. `OnceLaws`: a step needs no second round. `Said`: what the contracts of the entry points say. `OrderLaws`: the readings of a round's list are applied in tag order.
-- The others lead there: what keeps the tiers (`KeepLaws`, `StillLaws`, `StepLaws`), what a round does (`RoundLaws`), and what every call keeps (`SoundLaws`, `CallLaws`).
pub mod TierLaws
pub mod InsideLaws
pub mod TickLaws
pub mod RateLaws
pub mod RoundLaws
pub mod NameLaws
pub mod KeepLaws
pub mod StillLaws
pub mod StepLaws
pub mod SoundLaws
pub mod CallLaws
pub mod Said
pub mod ContractLaws
pub mod NamedLaws
pub mod ClaimLaws
pub mod OnceLaws
pub mod OrderLaws
