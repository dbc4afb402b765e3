pub mod TextDemands
pub mod Numbers
