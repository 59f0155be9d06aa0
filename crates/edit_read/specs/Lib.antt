pub mod Judged
pub mod Filled
pub mod Answer
