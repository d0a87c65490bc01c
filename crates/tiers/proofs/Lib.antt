-- `Laws`: the table that memory holds. `ListedLaws`: a tag stands in the order exactly if it has a tier. `GracedLaws`: and in the graces exactly if it is in
-- grace.
pub mod Laws
pub mod ListedLaws
pub mod GracedLaws
pub mod Links
