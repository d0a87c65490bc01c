-- The checks of calls.
pub mod Calls
pub mod Creation
