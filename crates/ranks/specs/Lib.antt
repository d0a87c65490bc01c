-- What the names of a directory say, as two-byte numbers.
pub mod Ranks
