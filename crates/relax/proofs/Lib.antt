pub mod Leveling
