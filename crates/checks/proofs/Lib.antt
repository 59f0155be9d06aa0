pub mod Accepted
pub mod Passing
pub mod Telling
