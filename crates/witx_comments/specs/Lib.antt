pub mod Comments
pub mod Documentation
pub mod Copies
