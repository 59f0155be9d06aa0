pub mod Decoding
pub mod Loops
pub mod Turns
pub mod Laws
