-- What words hold, and the words of each thing. Any words hold something: a number that stands for nothing is read as the last case named.
pub mod Value
pub mod Error
pub mod Entry
pub mod Time
