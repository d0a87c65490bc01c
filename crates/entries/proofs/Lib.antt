-- What the cells of an entry hold of a tag.
pub mod EntryLaws
pub mod Links
