-- `PanelLaws`: the parts of a list, checked and loaded. `WriteLaws`: the bytes of a written list. `RoundTrip`: a written list loaded.
-- `GraceLaws`: a tag in grace is in tier 2. `LoadLaws`: what loading keeps.
pub mod PanelLaws
pub mod WriteLaws
pub mod RoundTrip
pub mod GraceLaws
pub mod LoadLaws
pub mod Links
