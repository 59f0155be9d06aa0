pub mod Decoding
pub mod Encoding
pub mod Accepted
pub mod Outputs
