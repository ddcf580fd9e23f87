pub mod Keeping
pub mod Owing
pub mod Cut
pub mod Rows
