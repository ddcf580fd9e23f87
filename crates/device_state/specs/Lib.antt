pub mod Refusals
pub mod State
