pub mod Stream
pub mod Devices
pub mod Demand
pub mod Sheet
pub mod Limits
