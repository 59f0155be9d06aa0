pub mod Raws
pub mod Checks
pub mod Good
