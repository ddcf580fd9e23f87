pub mod Informing
