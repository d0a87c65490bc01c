-- Laws of checks.
pub mod Laws
pub mod CallLaws
pub mod Links
