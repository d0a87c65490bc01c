-- Laws of an engine's memory, and of what a call on it comes to.
pub mod Laws
pub mod CallLaws
pub mod LookLaws
pub mod Said
pub mod Links
