pub mod Store
pub mod Figures
pub mod Sheet
