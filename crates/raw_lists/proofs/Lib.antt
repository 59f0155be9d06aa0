pub mod Lists
pub mod Pieces
pub mod Checking
pub mod Accepted
