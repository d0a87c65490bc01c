-- Rule 7: stale.
pub mod Stale
