pub mod Rooms
pub mod Operations
pub mod Tokens
pub mod Cursors
pub mod Each
