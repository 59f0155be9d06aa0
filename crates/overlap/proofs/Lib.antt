pub mod Overlaps
pub mod Endings
pub mod Search
pub mod Turns
pub mod Answers
pub mod Sheets
