-- A fresh board.
pub mod Fresh
