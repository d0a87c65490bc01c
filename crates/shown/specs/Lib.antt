-- What looks answer, by the head and the board.
pub mod Looks
