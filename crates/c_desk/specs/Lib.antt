pub mod Captures
pub mod Desk
pub mod Inner
