pub mod Choice
pub mod First
