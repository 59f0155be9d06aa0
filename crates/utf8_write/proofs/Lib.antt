pub mod Encodes
pub mod Spilling
