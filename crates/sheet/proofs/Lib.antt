pub mod Cases
pub mod Sheet
pub mod Whole
pub mod Ranges
