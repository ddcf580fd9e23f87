pub mod Crc
pub mod CrcSteps
pub mod Names
pub mod Flags
pub mod Key
pub mod Version
