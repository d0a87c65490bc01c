-- Laws of the read-back, and of writes that are not made.
pub mod FailLaws
pub mod ReadBackLaws
pub mod OnceLaws
pub mod Links
