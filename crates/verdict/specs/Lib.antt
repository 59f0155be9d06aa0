pub mod Verdicts
pub mod Points
