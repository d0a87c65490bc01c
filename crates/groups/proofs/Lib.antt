-- Laws of groups in memory.
pub mod Laws
pub mod Links
