-- Laws that the proofs of the functions share, and what their definitions mean.
pub mod Laws
pub mod CompareLaws
pub mod Meaning
pub mod AnswerLaws
