pub mod Verifying
pub mod Rows
