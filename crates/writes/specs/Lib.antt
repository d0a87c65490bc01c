-- Rule 8: the read-back, and writes that fail.
pub mod ReadBack
pub mod Failing
