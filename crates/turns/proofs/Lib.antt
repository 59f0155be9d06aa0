pub mod Parts
pub mod Coming
pub mod Memories
pub mod Emitted
