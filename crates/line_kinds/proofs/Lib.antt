pub mod Cases
pub mod Figures
