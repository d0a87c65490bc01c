-- Laws of rule 7.
pub mod ListedLaws
pub mod ChangeLaws
pub mod MarkLaws
pub mod Links
