pub mod Order
pub mod Bits
pub mod Directory
pub mod Keys
