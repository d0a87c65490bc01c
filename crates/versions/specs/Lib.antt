-- Rule 8: version.
pub mod Versions
