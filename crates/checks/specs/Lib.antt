pub mod Lists
pub mod Passing
