pub mod Text
pub mod Handed
