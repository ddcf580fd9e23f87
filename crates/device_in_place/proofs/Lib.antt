pub mod Copies
pub mod Placed
pub mod Plain
pub mod Quick
