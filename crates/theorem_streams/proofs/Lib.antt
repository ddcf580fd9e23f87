pub mod Rest
pub mod Stored
pub mod Replies
pub mod Owed
pub mod Calls
pub mod Cut
pub mod Meets
pub mod Pieces
