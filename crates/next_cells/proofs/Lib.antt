pub mod Multiplied
pub mod Warming
