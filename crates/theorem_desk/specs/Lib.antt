pub mod Meant
pub mod Desk
pub mod AppReplies
