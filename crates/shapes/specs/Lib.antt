pub mod Shapes
pub mod Tiling
pub mod Accepted
