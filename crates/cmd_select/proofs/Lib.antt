pub mod PrefixBits
pub mod PrefixBytes
pub mod Selecting
pub mod SelectVectors
