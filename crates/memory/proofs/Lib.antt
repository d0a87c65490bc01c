-- For callers: `RowLaws` (rows, and rows as a decoder reads them), `LoopLaws` (loops that fill or replace). Below them: `BlockLaws`,
-- `CellLaws`, `HalfLaws`.
pub mod BlockLaws
pub mod CellLaws
pub mod HalfLaws
pub mod LoopLaws
pub mod RowLaws
pub mod Links
