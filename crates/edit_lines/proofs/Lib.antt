pub mod Leaves
pub mod Begins
pub mod Scanning
pub mod Points
pub mod Lines
