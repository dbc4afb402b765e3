pub mod Fields
pub mod Within
pub mod Faults
pub mod After
