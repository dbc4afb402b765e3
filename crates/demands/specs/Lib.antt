pub mod Order
pub mod Demands
pub mod Afresh
