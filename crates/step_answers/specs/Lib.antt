-- Rule 9: what each answer of the host comes to.
pub mod Answers
