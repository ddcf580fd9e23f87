pub mod Holding
pub mod Laying
pub mod Cases
pub mod Round
