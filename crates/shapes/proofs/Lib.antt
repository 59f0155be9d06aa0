pub mod Shapely
pub mod Tiled
pub mod Accepted
