pub mod Feeding
pub mod Rules
pub mod Rows
