-- Rule 6: slices.
pub mod Slice
