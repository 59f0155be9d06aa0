pub mod Choice
pub mod Placed
