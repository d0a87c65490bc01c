-- Rules 2 and 3.
pub mod Value
pub mod Error
pub mod Entry
pub mod Deadband
