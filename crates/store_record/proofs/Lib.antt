pub mod States
pub mod Whole
pub mod Cuts
pub mod Record
pub mod Bytes
pub mod Samples
