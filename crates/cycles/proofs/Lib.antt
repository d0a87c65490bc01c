-- Laws of what a step goes on to.
pub mod PollingLaws
pub mod Links
