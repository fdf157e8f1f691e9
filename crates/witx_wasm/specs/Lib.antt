pub mod Forms
pub mod Codes
pub mod Binary
pub mod Modules
pub mod Readers
pub mod Reading
