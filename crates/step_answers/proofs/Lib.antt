-- Laws of what an answer comes to.
pub mod AnswerLaws
pub mod Links
