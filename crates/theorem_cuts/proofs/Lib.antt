pub mod Cuts
pub mod Frames
pub mod Rows
pub mod App
