pub mod Writable
pub mod Passes
