-- What the functions on frames answer.
pub mod Numbers
pub mod Compare
pub mod Calls
pub mod Counts
pub mod Answer
