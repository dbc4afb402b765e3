pub mod Onward
pub mod Number
pub mod Line
