pub mod Joining
pub mod Measuring
pub mod Putting
pub mod Writing
pub mod Answering
pub mod Laws
