pub mod Link
pub mod Options
pub mod Progress
pub mod Stats
pub mod Version
