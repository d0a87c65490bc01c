-- Laws of rule 7: a table marked stale.
pub mod StaleLaws
pub mod Links
