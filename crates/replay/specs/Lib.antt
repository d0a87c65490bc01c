-- The numbers of answers.
pub mod Answers
