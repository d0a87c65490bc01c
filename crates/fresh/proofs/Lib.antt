-- What zeros hold.
pub mod FreshLaws
pub mod Links
