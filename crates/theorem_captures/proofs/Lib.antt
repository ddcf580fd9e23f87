pub mod Handed
pub mod Placed
pub mod Rows
