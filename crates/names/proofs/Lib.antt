pub mod Name
pub mod Forms
