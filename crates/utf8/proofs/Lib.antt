pub mod Sequence
pub mod Texts
pub mod Ways
