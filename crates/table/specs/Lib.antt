pub mod Tag
pub mod Row
pub mod Table
