pub mod Order
pub mod Demands
pub mod Ways
pub mod Afresh
