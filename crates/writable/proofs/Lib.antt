pub mod Checking
pub mod Counting
pub mod Looking
