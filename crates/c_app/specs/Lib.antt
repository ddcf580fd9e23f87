pub mod App
pub mod Calls
