pub mod Starting
pub mod StartVectors
pub mod Careful
