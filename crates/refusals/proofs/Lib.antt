-- Laws of the refusals.
pub mod Laws
pub mod Links
