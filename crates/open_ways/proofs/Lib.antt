pub mod Moves
pub mod Opening
