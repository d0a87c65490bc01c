-- Laws of what was done, of lists that are empty, and of what is given back.
pub mod DoneLaws
pub mod EmptyLaws
pub mod ReplyLaws
pub mod Links
