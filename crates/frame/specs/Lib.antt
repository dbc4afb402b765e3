pub mod Sheet
pub mod Run
pub mod Limits
pub mod Demands
pub mod Plan
pub mod Table
pub mod Afresh
pub mod Cases
