-- What cells of a row hold of a tag.
pub mod FieldLaws
pub mod Links
