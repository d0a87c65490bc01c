-- `PlaceLaws`: tags sorted one by one. `SlotLaws`: tags sorted by slots. `SliceLaws`: a slice pushed place by place, and the next index.
pub mod PlaceLaws
pub mod SlotLaws
pub mod SliceLaws
pub mod Links
