pub mod Rounded
pub mod Rounding
pub mod Steady
pub mod Thermal
