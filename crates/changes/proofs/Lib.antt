-- Laws on changes.
pub mod TakeLaws
pub mod FitLaws
pub mod ToldLaws
