-- Rule 8: the writes that wait.
pub mod Queue
