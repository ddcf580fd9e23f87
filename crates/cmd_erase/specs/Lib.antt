pub mod Erase
