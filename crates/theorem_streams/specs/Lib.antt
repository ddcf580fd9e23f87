pub mod Rules
pub mod Stream
pub mod Demand
