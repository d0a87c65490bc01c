-- Changes as records. Definitions only.
pub mod Changes
