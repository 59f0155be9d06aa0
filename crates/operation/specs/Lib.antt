pub mod Views
pub mod Meets
