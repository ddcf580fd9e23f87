pub mod Acts
pub mod Inner
