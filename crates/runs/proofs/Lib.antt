-- Laws on lent runs.
pub mod Rows
