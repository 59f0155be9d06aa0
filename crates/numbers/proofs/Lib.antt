pub mod Orders
pub mod Points
pub mod Scalar
pub mod Signs
pub mod Steps
pub mod Sums
