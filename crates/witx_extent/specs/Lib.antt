pub mod Extents
pub mod Waiting
