-- Rule 6, part by part, and the round whole.
pub mod Tick
pub mod Graces
pub mod Due
pub mod Added
pub mod Missing
pub mod Round
pub mod Memory
pub mod Collect
