pub mod Laying
pub mod Holding
pub mod Flags
pub mod Answering
