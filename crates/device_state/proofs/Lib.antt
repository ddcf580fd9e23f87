pub mod Limits
pub mod Told
