pub mod Reply
pub mod Answer
