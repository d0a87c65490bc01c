-- The board: all that an engine keeps beside its head.
pub mod Layout
pub mod Board
