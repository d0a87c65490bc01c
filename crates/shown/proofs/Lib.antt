-- Laws of what looks answer.
pub mod LookLaws
pub mod Links
