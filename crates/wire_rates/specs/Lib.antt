pub mod Baud
