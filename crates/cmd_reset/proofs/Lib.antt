pub mod Resetting
pub mod Rows
