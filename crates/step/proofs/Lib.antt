pub mod Store
pub mod Levels
