pub mod Numbers
pub mod Entries
