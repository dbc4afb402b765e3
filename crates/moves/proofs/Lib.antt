pub mod Rows
pub mod Reach
pub mod Figures
