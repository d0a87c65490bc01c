-- Laws of tags and of the table in memory.
pub mod Laws
pub mod RowLaws
pub mod Links
