pub mod Going
pub mod Waiting
