pub mod Items
pub mod Answers
pub mod Writes
