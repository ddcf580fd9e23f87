pub mod Answers
pub mod Reply
pub mod Inner
