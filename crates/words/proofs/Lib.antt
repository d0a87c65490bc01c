-- Laws of the definitions.
pub mod Laws
pub mod Links
