pub mod Flash
pub mod Answers
