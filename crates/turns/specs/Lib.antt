pub mod Looking
pub mod Remembering
pub mod Emitting
