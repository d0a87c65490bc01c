-- `KeepLaws`: the part that passes a test, and counts. `CountLaws`: how long a list of tags can be. `SortLaws`: the stable sort.
-- `SliceLaws`: S slices make one turn.
pub mod CountLaws
pub mod KeepLaws
pub mod SliceLaws
pub mod SortLaws
