-- Rule 7: one reading applied.
pub mod Apply
pub mod Steps
