pub mod Handling
pub mod Inner
