-- What the C functions answer.
pub mod Directories
pub mod Entries
pub mod Polls
