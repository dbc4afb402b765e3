pub mod Forms
pub mod Cut
