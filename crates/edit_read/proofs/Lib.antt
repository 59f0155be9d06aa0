pub mod Adding
pub mod ItemLines
pub mod HeadLines
pub mod Judging
pub mod Filling
pub mod Filled
