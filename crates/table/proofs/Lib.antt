pub mod Rounded
pub mod Frames
pub mod Ways
pub mod Cells
pub mod Places
