-- The arithmetic of document 01, over IEEE 754's binary64 as `lib.Ieee` has it. Definitions only.
pub mod Band
pub mod Round
pub mod Times
