pub mod Points
pub mod Chains
pub mod Rooms
