-- Laws of one reading applied.
pub mod ApplyLaws
pub mod RepeatLaws
pub mod Links
