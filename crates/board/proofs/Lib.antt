-- Laws of the board and of its parts.
pub mod BoardLaws
pub mod Links
