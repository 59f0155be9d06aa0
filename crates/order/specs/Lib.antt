pub mod Readable
pub mod Spelling
