pub mod Cuts
pub mod Sums
pub mod Scratch
pub mod Pairs
pub mod Places
pub mod Meeting
