pub mod Opening
pub mod Lines
pub mod Sheets
