pub mod Raws
pub mod Lists
pub mod Steps
