pub mod Digits
pub mod Numbers
pub mod Limits
pub mod Orders
