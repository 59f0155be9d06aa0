pub mod Folds
pub mod Sums
