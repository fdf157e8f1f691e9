pub mod Entries
pub mod FirstEntries
pub mod Adaptable
pub mod Names
pub mod Lines
pub mod Listings
