-- Laws of descriptions.
pub mod Laws
pub mod Links
