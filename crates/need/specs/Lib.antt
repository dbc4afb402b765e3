pub mod Axes
pub mod Need
