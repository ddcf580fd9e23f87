pub mod Handed
pub mod Rows
