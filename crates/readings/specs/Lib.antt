-- Rule 7: the readings of a list of tags, and the changes told.
pub mod Listed
pub mod Changes
