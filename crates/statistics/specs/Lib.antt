-- Rule 10.
pub mod Counts
pub mod Numbers
pub mod Rate
pub mod Period
pub mod Stats
