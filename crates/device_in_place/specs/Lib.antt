pub mod On
pub mod Byte
pub mod Inner
