-- The places of a tag in a list. Definitions only.
pub mod Places
