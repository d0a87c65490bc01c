-- `RemoveLaws` (one place), `EachLaws` (any number of them).
pub mod EachLaws
pub mod RemoveLaws
pub mod Links
