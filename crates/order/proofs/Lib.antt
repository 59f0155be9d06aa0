pub mod Spelled
pub mod Comparing
pub mod Pairs
