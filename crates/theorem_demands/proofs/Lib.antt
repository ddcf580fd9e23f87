pub mod Sheet
pub mod Limits
pub mod Keeping
pub mod Rooms
pub mod Owing
pub mod Cut
pub mod Wrong
pub mod Pieces
