-- Laws of the head.
pub mod Laws
pub mod Links
