pub mod State
pub mod Cuts
pub mod Record
