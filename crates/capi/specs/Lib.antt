-- The entry points: what each answers, and what it leaves.
pub mod Memory
pub mod Calls
pub mod Creation
pub mod Looks
