pub mod Points
pub mod Sizes
pub mod Steps
pub mod Sums
