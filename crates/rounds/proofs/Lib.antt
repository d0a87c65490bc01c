-- Laws of rule 6, part by part.
pub mod AddedLaws
pub mod DueLaws
pub mod GraceLaws
pub mod GracedLaws
pub mod OnceLaws
pub mod RoundLaws
pub mod TickLaws
pub mod Links
