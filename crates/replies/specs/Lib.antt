-- Rule 9: what a step gives back, the end, and a connection that is lost.
pub mod Reply
pub mod Worker
pub mod Losing
