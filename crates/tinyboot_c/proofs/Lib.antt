mod Copies
mod Cases
pub mod Round
mod Placing
pub mod Single
