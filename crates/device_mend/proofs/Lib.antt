pub mod Trials
pub mod Mending
pub mod Listing
pub mod Again
pub mod Deciding
pub mod Entries
pub mod Samples
