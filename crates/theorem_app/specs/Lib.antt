pub mod Stream
pub mod Demand
pub mod Rows
