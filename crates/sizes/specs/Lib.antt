pub mod Texts
pub mod Sizes
