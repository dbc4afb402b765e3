pub mod Begbija
