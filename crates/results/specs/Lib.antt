-- The results of a reply, and check 42.
pub mod Results
