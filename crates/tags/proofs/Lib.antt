-- For callers: `ListLaws` (what a list is, and what each function makes of it), `CollectLaws` (loops that collect).
pub mod CollectLaws
pub mod ListLaws
pub mod Links
