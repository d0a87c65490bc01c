-- Laws of the queue of writes.
pub mod QueueLaws
pub mod Links
