-- What is written into lent lists. Definitions only.
pub mod Lent
pub mod Changes
