pub mod Sums
pub mod Fits
