pub mod Erasing
pub mod Rows
