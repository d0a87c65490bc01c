-- `Laws`: filling, and that the sort keys in memory order tags by lower-cased name. `WordLaws`: a tag's word is another tag.
pub mod Laws
pub mod WordLaws
pub mod Links
