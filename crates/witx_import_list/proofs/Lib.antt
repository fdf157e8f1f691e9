pub mod Appending
pub mod Escapes
pub mod Pieces
pub mod ListReads
pub mod Walk
