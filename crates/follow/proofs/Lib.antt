pub mod Keeping
pub mod Rows
pub mod Laying
