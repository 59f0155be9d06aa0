pub mod Parts
pub mod Sorting
pub mod Texts
pub mod Histories
