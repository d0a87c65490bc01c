-- Rule 9: what a step waits for, and its checks.
pub mod Kinds
pub mod Awaited
