-- Rule 5.
pub mod Tiers
pub mod Listed
pub mod Graced
