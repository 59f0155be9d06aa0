pub mod Points
pub mod GoodItems
pub mod Replaying
pub mod Filing
pub mod Spelling
