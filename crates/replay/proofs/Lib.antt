pub mod Building
pub mod Judging
pub mod Answering
pub mod Covering
pub mod Sheets
