pub mod Numbers
pub mod Counting
pub mod Hexes
pub mod Emitting
