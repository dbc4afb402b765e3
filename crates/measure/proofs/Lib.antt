pub mod Levels
pub mod Replies
pub mod Places
pub mod Meaning
