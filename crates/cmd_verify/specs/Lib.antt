pub mod Verify
