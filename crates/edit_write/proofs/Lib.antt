pub mod Counting
pub mod Emitting
pub mod Goodness
pub mod Finishing
pub mod Rewriting
pub mod Replaying
