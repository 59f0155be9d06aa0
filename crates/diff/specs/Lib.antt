pub mod Items
pub mod Replay
pub mod Checks
pub mod Passes
