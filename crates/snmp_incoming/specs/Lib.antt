pub mod Texts
pub mod Outcome
pub mod Answers
