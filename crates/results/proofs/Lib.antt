-- Laws of check 42.
pub mod ResultLaws
pub mod Links
