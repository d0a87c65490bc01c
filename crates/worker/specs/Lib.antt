-- Rule 9: the steps of an engine.
pub mod Steps
