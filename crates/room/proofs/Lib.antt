pub mod Answers
pub mod Bools
pub mod Choices
pub mod Copying
pub mod Growing
pub mod Parts
pub mod Placing
