pub mod Overlap
pub mod Table
pub mod Sheets
