pub mod AliasSearch
pub mod Alignment
pub mod Examples
pub mod Lines
pub mod Located
pub mod SamePaths
