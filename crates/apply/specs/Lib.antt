pub mod Answers
pub mod Sheets
