-- What lent memory holds. Definitions only.
pub mod Blocks
pub mod Cells
pub mod Halves
