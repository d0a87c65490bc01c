-- `TakeLaws`: each element of a list replaced, by its place.
pub mod TakeLaws
pub mod Links
