-- Laws of the head's parts.
pub mod Laws
pub mod Links
