pub mod Writing
pub mod Bytes
