-- For callers: `LentLaws` (cells and records written one after the other).
pub mod LentLaws
pub mod Links
