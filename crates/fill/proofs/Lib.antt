pub mod Moving
pub mod Flat
pub mod Layering
pub mod Jobs
pub mod Filling
